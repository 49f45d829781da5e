-- What holds of a content that is found under a name.
use Rattle.std.proofs.Common.{◌≡◌, ℕ, List, [], ◌∷◌, Bool, true, false, Some}
use Rattle.std.proofs.Common.{refl, sym, ap, subst, ◌∙◌, if◌then◌else◌}
use Rattle.std.proofs.lemmas.Bool.{and_parts, and_from}
use Rattle.std.proofs.lemmas.Slice.Eq.{bytes_eq-Decides}
use Rattle.std.specs.List.{filter, list_all, AllByRecursion}
use Rattle.std.specs.Str.{bytes_eq}
use Rattle.rec_container.specs.Container.{Entry, content_of}

the_content : (c d : List ℕ) → Some c ≡ Some d → c ≡ d
the_content c d h = cc

-- what holds of all contents holds of one that is found
pub found_content : (P : List ℕ → Type 0) (es : List Entry) (name content : List ℕ)
    → AllByRecursion (λ (e : Entry). P e.content) es → content_of es name ≡ Some content → P content
found_content P [] name content all h = absurd cc
found_content P (e ∷ es) name content all h =
    by (bytes_eq name e.name) (found_content P es name content all.1) h
  where
    by : (b : Bool) → (content_of es name ≡ Some content → P content)
        → (if b then Some e.content else content_of es name) ≡ Some content → P content
    by true rest is = subst P (the_content e.content content is) all.0
    by false rest is = rest is

-- what holds of all names holds of one that is found
pub found_name : (t : List ℕ → Bool) (es : List Entry) (name content : List ℕ)
    → list_all (λ (e : Entry). t e.name) es ≡ true → content_of es name ≡ Some content
    → t name ≡ true
found_name t [] name content all h = absurd cc
found_name t (e ∷ es) name content all h =
    let parts = and_parts (t e.name) (list_all (λ (d : Entry). t d.name) es) all in
    by (bytes_eq name e.name) (bytes_eq-Decides name e.name).0 parts.0
    (found_name t es name content parts.1) h
  where
    by : (b : Bool) → (b ≡ true → name ≡ e.name) → t e.name ≡ true
        → (content_of es name ≡ Some content → t name ≡ true)
        → (if b then Some e.content else content_of es name) ≡ Some content → t name ≡ true
    by true same first rest is = subst (λ (n : List ℕ). t n ≡ true) (sym (same refl)) first
    by false same first rest is = rest is

-- entries that were chosen by a test of their names pass it
pub all_chosen : (t : List ℕ → Bool) (es : List Entry)
    → list_all (λ (e : Entry). t e.name) (filter (λ (e : Entry). t e.name) es) ≡ true
all_chosen t [] = refl
all_chosen t (e ∷ es) = by (t e.name) refl (all_chosen t es)
  where
    by : (b : Bool) → t e.name ≡ b
        → list_all (λ (d : Entry). t d.name) (filter (λ (d : Entry). t d.name) es) ≡ true
        → list_all (λ (d : Entry). t d.name)
        (if b then e ∷ filter (λ (d : Entry). t d.name) es else filter (λ (d : Entry). t d.name) es)
        ≡ true
    by true is rest =
        and_from (t e.name)
        (list_all (λ (d : Entry). t d.name) (filter (λ (d : Entry). t d.name) es)) is rest
    by false is rest = rest

not_both : (b : Bool) → b ≡ true → b ≡ false → ⊥
not_both b holds fails = cc

found_first : (b : Bool) (e : Entry) (fs : List Entry) (name : List ℕ)
    → content_of (if b then e ∷ fs else fs) name
    ≡ (if b then (if bytes_eq name e.name then Some e.content else content_of fs name)
    else content_of fs name)
found_first true e fs name = refl
found_first false e fs name = refl

-- and what is found among them is found among all
pub chosen_content : (t : List ℕ → Bool) (es : List Entry) (name content : List ℕ)
    → content_of (filter (λ (e : Entry). t e.name) es) name ≡ Some content
    → content_of es name ≡ Some content
chosen_content t [] name content h = h
chosen_content t (e ∷ es) name content h =
    let fs = filter (λ (d : Entry). t d.name) es in
    by
    fs
    (t e.name)
    (bytes_eq name e.name)
    (λ same fails found. not_both (t name) (found_name t fs name content (all_chosen t es) found)
    (ap t ((bytes_eq-Decides name e.name).0 same) ∙ fails))
    (chosen_content t es name content)
    (sym (found_first (t e.name) e fs name) ∙ h)
  where
    by : (fs : List Entry) (b c : Bool)
        → (c ≡ true → b ≡ false → content_of fs name ≡ Some content → ⊥)
        → (content_of fs name ≡ Some content → content_of es name ≡ Some content)
        → (if b then (if c then Some e.content else content_of fs name) else content_of fs name)
        ≡ Some content
        → (if c then Some e.content else content_of es name) ≡ Some content
    by fs true true apart rest is = is
    by fs true false apart rest is = rest is
    by fs false true apart rest is = absurd (apart refl refl is)
    by fs false false apart rest is = rest is
