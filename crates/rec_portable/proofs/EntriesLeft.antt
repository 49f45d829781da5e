-- The entries that are left of a walk over them.
use Rattle.std.proofs.Common.{zero, suc, ◌≡◌, ℕ, ◌+◌, ◌≤◌, List, [], ◌∷◌, ◌++◌, Bool}
use Rattle.std.proofs.Common.{true, false, not, ◌&&◌, ◌||◌, drop, filter, length}
use Rattle.std.proofs.Common.{map, slice_get, Option, Some, None, refl, sym, ap, ◌∙◌}
use Rattle.std.proofs.Common.{add-one, append_assoc, append-nil, if◌then◌else◌}
use Rattle.std.proofs.lemmas.List.{drop_all}
use Rattle.std.specs.List.{list_any}
use Rattle.std.specs.Str.{bytes_eq}
use Rattle.rec_container.specs.Container.{Entry}
use Rattle.rec_container.specs.Writing.{entry_named}
use Rattle.rec_store.specs.JudgedParts.{first_unnamed, is_named}
use Rattle.rec_store.specs.RunParts.{is_metadata}
use Rattle.rec_portable.specs.Rewriting.{other_entries}
use Rattle.rec_portable.specs.Upgrading.{first_foreign, is_in_place}

-- the entry of a name at an index, and those after it
at : (es : List Entry) (i : ℕ) (name : List ℕ)
    → slice_get (map (λ (e : Entry). e.name) es) i ≡ Some name
    → (e : Entry) × (drop i es ≡ e ∷ drop (suc i) es) × (e.name ≡ name)
at [] i name h = absurd (let none = h in cc)
at (e ∷ es) zero name h = (e, refl, cc)
at (e ∷ es) (suc i) name h = at es i name h

both_at : (es : List Entry) (i : ℕ) (name content : List ℕ)
    → slice_get (map (λ (e : Entry). e.name) es) i ≡ Some name
    → slice_get (map (λ (e : Entry). e.content) es) i ≡ Some content
    → drop i es ≡ entry_named name content ∷ drop (suc i) es
both_at [] i name content n c = absurd (let none = n in cc)
both_at (e ∷ es) zero name content n c =
    let same_name : e.name ≡ name = cc in
    let same_content : e.content ≡ content = cc in
    ap (λ l. entry_named l e.content ∷ es) same_name
    ∙ ap (λ l. entry_named name l ∷ es) same_content
both_at (e ∷ es) (suc i) name content n c = both_at es i name content n c

neither : (m n : Bool) → (not m && not n) ≡ not (m || n)
neither true n = refl
neither false n = refl

module _ (es : List Entry) (i : ℕ) (name : List ℕ)
    (here : slice_get (map (λ (e : Entry). e.name) es) i ≡ Some name) where
  foreign_here : first_foreign i (drop i es)
      ≡ (if is_in_place i name then first_foreign (i + 1) (drop (i + 1) es) else Some name)
  foreign_here =
      let e = at es i name here in
      ap (first_foreign i) e.1
      ∙ ap (λ n. if is_in_place i n then first_foreign (suc i) (drop (suc i) es) else Some n) e.2
      ∙ ap (λ k. if is_in_place i name then first_foreign k (drop k es) else Some name)
      (sym (add-one i))

  pub in_place : first_foreign 0 es ≡ first_foreign i (drop i es) → is_in_place i name ≡ true
      → first_foreign 0 es ≡ first_foreign (i + 1) (drop (i + 1) es)
  in_place so_far is =
      so_far ∙ foreign_here
      ∙ ap (λ b. if b then first_foreign (i + 1) (drop (i + 1) es) else Some name) is

  pub out_of_place : first_foreign 0 es ≡ first_foreign i (drop i es) → is_in_place i name ≡ false
      → Some name ≡ first_foreign 0 es
  out_of_place so_far is =
      sym (so_far ∙ foreign_here
      ∙ ap (λ b. if b then first_foreign (i + 1) (drop (i + 1) es) else Some name) is)

  module _ (paths : List (List ℕ))
      (so_far : first_unnamed paths es ≡ first_unnamed paths (drop i es)) where
    unnamed_here : first_unnamed paths es
        ≡ (if not (is_metadata name || list_any (λ p. bytes_eq name p) paths) then Some name
        else first_unnamed paths (drop (i + 1) es))
    unnamed_here =
        let e = at es i name here in
        so_far ∙ ap (first_unnamed paths) e.1
        ∙ ap (λ n. if not (is_metadata n) && not (list_any (λ p. bytes_eq n p) paths) then Some n
        else first_unnamed paths (drop (suc i) es))
        e.2
        ∙ ap (λ b. if b then Some name else first_unnamed paths (drop (suc i) es))
        (neither (is_metadata name) (list_any (λ p. bytes_eq name p) paths))
        ∙ ap (λ k. if not (is_metadata name || list_any (λ p. bytes_eq name p) paths) then Some name
        else first_unnamed paths (drop k es))
        (sym (add-one i))

    pub with_place : (is_metadata name || list_any (λ p. bytes_eq name p) paths) ≡ true
        → first_unnamed paths es ≡ first_unnamed paths (drop (i + 1) es)
    with_place is =
        unnamed_here
        ∙ ap (λ b. if not b then Some name else first_unnamed paths (drop (i + 1) es)) is

    pub without_place : (is_metadata name || list_any (λ p. bytes_eq name p) paths) ≡ false
        → Some name ≡ first_unnamed paths es
    without_place is =
        sym (unnamed_here
        ∙ ap (λ b. if not b then Some name else first_unnamed paths (drop (i + 1) es)) is)

-- nothing is left
pub foreign_end : (es : List Entry) (i : ℕ) → length es ≤ i
    → first_foreign 0 es ≡ first_foreign i (drop i es) → None ≡ first_foreign 0 es
foreign_end es i past so_far = sym (so_far ∙ ap (first_foreign i) (drop_all i es past))

pub unnamed_end : (paths : List (List ℕ)) (es : List Entry) (i : ℕ) → length es ≤ i
    → first_unnamed paths es ≡ first_unnamed paths (drop i es) → None ≡ first_unnamed paths es
unnamed_end paths es i past so_far = sym (so_far ∙ ap (first_unnamed paths) (drop_all i es past))

-- the others among those that are left, after entries so far
chosen : (b : Bool) (before after : List Entry) (e : Entry)
    → (before ++ (if b then [] else e ∷ [])) ++ after
    ≡ before ++ (if not b then e ∷ after else after)
chosen true before after e = append_assoc before [] after
chosen false before after e = append_assoc before (e ∷ []) after

pub other_next : (es : List Entry) (i : ℕ) (name content : List ℕ) (old new all : List Entry)
    → slice_get (map (λ (e : Entry). e.name) es) i ≡ Some name
    → slice_get (map (λ (e : Entry). e.content) es) i ≡ Some content
    → old ++ other_entries (drop i es) ≡ all
    → new ≡ old ++ (if is_metadata name then [] else entry_named name content ∷ [])
    → new ++ other_entries (drop (i + 1) es) ≡ all
other_next es i name content old new all n c so_far added =
    let rest = other_entries (drop (i + 1) es) in
    let here = both_at es i name content n c
    ∙ ap (λ k. entry_named name content ∷ drop k es) (sym (add-one i)) in
    ap (λ l. l ++ rest) added ∙ chosen (is_metadata name) old rest (entry_named name content)
    ∙ sym (ap (λ l. old ++ other_entries l) here) ∙ so_far

pub others_end : (es : List Entry) (i : ℕ) (made all : List Entry) → length es ≤ i
    → made ++ other_entries (drop i es) ≡ all → made ≡ all
others_end es i made all past so_far =
    sym (append-nil made) ∙ ap (λ l. made ++ other_entries l) (sym (drop_all i es past)) ∙ so_far
