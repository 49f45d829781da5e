-- The content of a name, searched from an index on.
use Rattle.std.proofs.Common.{zero, suc, ◌≡◌, ℕ, ◌+◌, ◌≤◌, true, false, cond, List, [], ◌∷◌}
use Rattle.std.proofs.Common.{length, drop, map, slice_get, Some, None, refl, ap, ◌∙◌, arith}
use Rattle.std.specs.Str.{bytes_eq}
use Rattle.rec_container.specs.Container.{Entry, content_of}

-- the entry at the index has the name
content_at : (es : List Entry) (i : ℕ) (name other content : List ℕ)
    → slice_get (map (λ (e : Entry). e.name) es) i ≡ Some other
    → slice_get (map (λ (e : Entry). e.content) es) i ≡ Some content → bytes_eq name other ≡ true
    → content_of (drop i es) name ≡ Some content
content_at [] i name other content h g e = absurd cc
content_at (e ∷ es) zero name other content h g same =
    let a : e.name ≡ other = cc in
    let b : e.content ≡ content = cc in
    ap (λ t. cond t (Some e.content) (content_of es name)) (ap (bytes_eq name) a ∙ same) ∙ ap Some b
content_at (e ∷ es) (suc i) name other content h g same =
    content_at es i name other content h g same

pub content_here : (es : List Entry) (i : ℕ) (name other content : List ℕ)
    → content_of es name ≡ content_of (drop i es) name
    → slice_get (map (λ (e : Entry). e.name) es) i ≡ Some other
    → slice_get (map (λ (e : Entry). e.content) es) i ≡ Some content → bytes_eq name other ≡ true
    → content_of es name ≡ Some content
content_here es i name other content so_far h g same =
    so_far ∙ content_at es i name other content h g same

-- it has another name
content_after : (es : List Entry) (i : ℕ) (name other : List ℕ)
    → slice_get (map (λ (e : Entry). e.name) es) i ≡ Some other → bytes_eq name other ≡ false
    → content_of (drop i es) name ≡ content_of (drop (suc i) es) name
content_after [] i name other h different = absurd cc
content_after (e ∷ es) zero name other h different =
    let a : e.name ≡ other = cc in
    ap (λ t. cond t (Some e.content) (content_of es name)) (ap (bytes_eq name) a ∙ different)
content_after (e ∷ es) (suc i) name other h different = content_after es i name other h different

pub content_later : (es : List Entry) (i : ℕ) (name other : List ℕ)
    → content_of es name ≡ content_of (drop i es) name
    → slice_get (map (λ (e : Entry). e.name) es) i ≡ Some other
    → bytes_eq name other ≡ false → content_of es name ≡ content_of (drop (i + 1) es) name
content_later es i name other so_far h different =
    let next : suc i ≡ i + 1 = omega arith in
    so_far ∙ content_after es i name other h different ∙ ap (λ n. content_of (drop n es) name) next

-- nothing is left after the last entry
nothing_left : (es : List Entry) (i : ℕ) (name : List ℕ) → length es ≤ i
    → content_of (drop i es) name ≡ None
nothing_left [] zero name h = refl
nothing_left [] (suc i) name h = refl
nothing_left (e ∷ es) zero name h = absurd (omega (arith, h))
nothing_left (e ∷ es) (suc i) name h = nothing_left es i name (omega (arith, h))

pub content_missing : (es : List Entry) (i : ℕ) (name : List ℕ)
    → content_of es name ≡ content_of (drop i es) name → length es ≤ i → content_of es name ≡ None
content_missing es i name so_far past = so_far ∙ nothing_left es i name past
