-- What is found under a name among the metadata of a prefix,
-- and among entries that are chosen by their names.
use Rattle.std.proofs.Common.{◌≡◌, ℕ, ◌<◌, ◌^◌, length, Bool, true, false, ◌||◌, ◌&&◌}
use Rattle.std.proofs.Common.{not, List, [], ◌∷◌, ◌++◌, Option, Some, None, refl, sym}
use Rattle.std.proofs.Common.{ap, subst, ◌∙◌, if◌then◌else◌, append-nil, append_assoc}
use Rattle.std.proofs.lemmas.Bool.{and_from, and_parts}
use Rattle.std.proofs.lemmas.Slice.Eq.{bytes_eq-Decides}
use Rattle.std.specs.List.{filter, flat_map, list_all}
use Rattle.std.specs.Str.{bytes_eq}
use Rattle.rec_container.proofs.Contents.{content_of-found, content_of-missing}
use Rattle.rec_container.specs.Container.{Entry, AreFrom, IsEntry, IsName, content_of}
use Rattle.rec_container.specs.Writing.{entry_named}
use Rattle.rec_salvage.specs.Gathering.{is_among}
use Rattle.rec_salvage.specs.Salvaged.{listed}

contradicts : {A : Type 0} (b : Bool) → b ≡ true → b ≡ false → A
contradicts b holds fails = absurd (let k = sym holds ∙ fails in cc)

not_found : {A : Type 0} (o : Option (List ℕ)) (c : List ℕ) → o ≡ None → o ≡ Some c → A
not_found o c none some = absurd (let k = sym none ∙ some in cc)

same_name : (name other : List ℕ) → bytes_eq name other ≡ true → name ≡ other
same_name name other h = (bytes_eq-Decides name other).0 h

either : (b : Bool) (o : Option (List ℕ)) → o ≡ None → (if b then o else None) ≡ o
either true o h = refl
either false o h = sym h

-- ---- entries that are listed by their paths

module _ (es : List Entry) where
  abbrev pub listed_of : List (List ℕ) → List Entry
  listed_of ps = flat_map (λ path. listed path (content_of es path)) ps

  pub listed_found : (ps : List (List ℕ)) (name : List ℕ)
      → content_of (listed_of ps) name ≡ (if is_among ps name then content_of es name else None)
  listed_found [] name = refl
  listed_found (p ∷ ps) name =
      by (content_of es p) refl (bytes_eq name p) refl (listed_found ps name)
    where
      by : (o : Option (List ℕ)) → content_of es p ≡ o → (b : Bool) → bytes_eq name p ≡ b
          → content_of (listed_of ps) name ≡ (if is_among ps name then content_of es name else None)
          → content_of (listed p o ++ listed_of ps) name
          ≡ (if b || is_among ps name then content_of es name else None)
      by None is true same rest = rest ∙ either (is_among ps name) (content_of es name)
          (ap (content_of es) (same_name name p same) ∙ is)
      by None is false other rest = rest
      by (Some c) is true same rest =
          ap (λ t. if t then Some c else content_of (listed_of ps) name) same
          ∙ sym (ap (content_of es) (same_name name p same) ∙ is)
      by (Some c) is false other rest =
          ap (λ t. if t then Some c else content_of (listed_of ps) name) other ∙ rest

-- ---- entries that are chosen by their names

module _ (t : List ℕ → Bool) where
  abbrev pub chosen : List Entry → List Entry
  chosen es = filter (λ (e : Entry). t e.name) es

  pub chosen_found : (es : List Entry) (name : List ℕ) → t name ≡ true
      → content_of (chosen es) name ≡ content_of es name
  chosen_found [] name h = refl
  chosen_found (e ∷ es) name h =
      by (t e.name) (bytes_eq name e.name) refl refl (chosen_found es name h)
    where
      by : (m b : Bool) → t e.name ≡ m → bytes_eq name e.name ≡ b
          → content_of (chosen es) name ≡ content_of es name
          → content_of (if m then e ∷ chosen es else chosen es) name
          ≡ (if b then Some e.content else content_of es name)
      by true b p q rest =
          ap (λ x. if x then Some e.content else content_of (chosen es) name) q
          ∙ ap (λ o. if b then Some e.content else o) rest
      by false false p q rest = rest
      by false true p q rest = contradicts (t name) h (ap t (same_name name e.name q) ∙ p)

  pub chosen_missing : (es : List Entry) (name : List ℕ) → content_of es name ≡ None
      → content_of (chosen es) name ≡ None
  chosen_missing [] name h = refl
  chosen_missing (e ∷ es) name h =
      by (t e.name) (bytes_eq name e.name) refl h (chosen_missing es name)
    where
      by : (m b : Bool) → bytes_eq name e.name ≡ b
          → (if b then Some e.content else content_of es name) ≡ None
          → (content_of es name ≡ None → content_of (chosen es) name ≡ None)
          → content_of (if m then e ∷ chosen es else chosen es) name ≡ None
      by m true q none rest = absurd cc
      by false false q none rest = rest none
      by true false q none rest =
          ap (λ x. if x then Some e.content else content_of (chosen es) name) q ∙ rest none

  -- all of them pass
  pub all_chosen : (es : List Entry) → list_all (λ (e : Entry). t e.name) (chosen es) ≡ true
  all_chosen [] = refl
  all_chosen (e ∷ es) = by (t e.name) refl (all_chosen es)
    where
      by : (b : Bool) → t e.name ≡ b → list_all (λ (d : Entry). t d.name) (chosen es) ≡ true
          → list_all (λ (d : Entry). t d.name) (if b then e ∷ chosen es else chosen es) ≡ true
      by true is rest = and_from (t e.name) (list_all (λ (d : Entry). t d.name) (chosen es)) is rest
      by false is rest = rest

-- ---- names that are new

none_before : (es fs : List Entry) (name : List ℕ) → content_of (es ++ fs) name ≡ None
    → content_of es name ≡ None
none_before es fs name h = by (content_of es name) refl
  where
    by : (o : Option (List ℕ)) → content_of es name ≡ o → o ≡ None
    by None is = refl
    by (Some c) is = not_found (content_of (es ++ fs) name) c h (content_of-found es fs name c is)

none_after : (es fs : List Entry) (name : List ℕ) → content_of (es ++ fs) name ≡ None
    → content_of fs name ≡ None
none_after es fs name h = sym (content_of-missing es fs name (none_before es fs name h)) ∙ h

-- an entry that is found has a spelling
pub found_is_entry : (seen es : List Entry) (name content : List ℕ) → AreFrom seen es
    → content_of es name ≡ Some content → IsEntry (entry_named name content)
found_is_entry seen [] name content are h = absurd cc
found_is_entry seen (e ∷ es) name content are h =
    by (bytes_eq name e.name) refl h (found_is_entry (seen ++ e ∷ []) es name content are.2)
  where
    by : (b : Bool) → bytes_eq name e.name ≡ b
        → (if b then Some e.content else content_of es name) ≡ Some content
        → (content_of es name ≡ Some content → IsEntry (entry_named name content))
        → IsEntry (entry_named name content)
    by true same is rest =
        let equal : e.content ≡ content = cc in
        record {
          name = subst IsName (sym (same_name name e.name same)) are.0.name;
          content = subst (λ (c : List ℕ). length c < 2 ^ 64) equal are.0.content;
        }
    by false other is rest = rest is

-- entries after entries
pub append_from : (seen es fs : List Entry) → AreFrom seen es → AreFrom (seen ++ es) fs
    → AreFrom seen (es ++ fs)
append_from seen [] fs h more = subst (λ (l : List Entry). AreFrom l fs) (append-nil seen) more
append_from seen (e ∷ es) fs h more = (
  h.0,
  h.1,
  append_from (seen ++ e ∷ []) es fs h.2
      (subst (λ (l : List Entry). AreFrom l fs) (sym (append_assoc seen (e ∷ []) es)) more),
)

-- those that are chosen, after others that lack the names that are chosen
pub chosen_from : (t : List ℕ → Bool) (seen before es : List Entry)
    → ((name : List ℕ) → t name ≡ true → content_of seen name ≡ None
    → content_of before name ≡ None)
    → AreFrom seen es
    → AreFrom before (chosen t es)
chosen_from t seen before [] less h = tt
chosen_from t seen before (e ∷ es) less h =
    by (t e.name) refl (chosen_from t (seen ++ e ∷ []) (before ++ e ∷ []) es more h.2)
    (chosen_from t (seen ++ e ∷ []) before es
    (λ name holds none. less name holds (none_before seen (e ∷ []) name none)) h.2)
  where
    more : (name : List ℕ) → t name ≡ true → content_of (seen ++ e ∷ []) name ≡ None
        → content_of (before ++ e ∷ []) name ≡ None
    more name holds none =
        content_of-missing before (e ∷ []) name
        (less name holds (none_before seen (e ∷ []) name none))
        ∙ none_after seen (e ∷ []) name none

    by : (b : Bool) → t e.name ≡ b → AreFrom (before ++ e ∷ []) (chosen t es)
        → AreFrom before (chosen t es) → AreFrom before (if b then e ∷ chosen t es else chosen t es)
    by true is kept left = (h.0, less e.name is h.1, kept)
    by false is kept left = left

-- no name stands twice among these, nor among those before
abbrev pub are_new : List (List ℕ) → List (List ℕ) → Bool
are_new ns [] = true
are_new ns (p ∷ ps) = not (is_among ns p) && are_new (p ∷ ns) ps

not_true : (b : Bool) → not b ≡ true → b ≡ false
not_true true h = absurd cc
not_true false h = refl

either_false : (a b : Bool) → (a || b) ≡ false → (a ≡ false) × (b ≡ false)
either_false true b h = absurd cc
either_false false b h = (refl, h)

module _ (es : List Entry) (are : AreFrom [] es) where
  pub listed_from : (ps ns : List (List ℕ)) (seen : List Entry)
      → ((name : List ℕ) → is_among ns name ≡ false → content_of seen name ≡ None)
      → are_new ns ps ≡ true → AreFrom seen (listed_of es ps)
  listed_from [] ns seen lacks new = tt
  listed_from (p ∷ ps) ns seen lacks new =
      by (content_of es p) refl (listed_from ps (p ∷ ns) seen
      (λ name other. lacks name (either_false (bytes_eq name p) (is_among ns name) other).1)
      tests.1)
      (λ c. listed_from ps (p ∷ ns) (seen ++ entry_named p c ∷ []) (more c) tests.1)
    where
      tests : (not (is_among ns p) ≡ true) × (are_new (p ∷ ns) ps ≡ true)
      tests = and_parts (not (is_among ns p)) (are_new (p ∷ ns) ps) new

      more : (content name : List ℕ) → (bytes_eq name p || is_among ns name) ≡ false
          → content_of (seen ++ entry_named p content ∷ []) name ≡ None
      more content name other =
          let apart = either_false (bytes_eq name p) (is_among ns name) other in
          content_of-missing seen (entry_named p content ∷ []) name (lacks name apart.1)
          ∙ ap (λ b. if b then Some content else None) apart.0

      by : (o : Option (List ℕ)) → content_of es p ≡ o → AreFrom seen (listed_of es ps)
          → ((c : List ℕ) → AreFrom (seen ++ entry_named p c ∷ []) (listed_of es ps))
          → AreFrom seen (listed p o ++ listed_of es ps)
      by None is rest after = rest
      by (Some c) is rest after =
          (found_is_entry [] es p c are is, lacks p (not_true (is_among ns p) tests.0), after c)
