-- What a loop over a map has gathered of its entries, where their order doesn't matter.
use Rattle.std.proofs.Common.{◌≡◌, ◌⊎◌, inl, inr, ℕ, Bool, true, false, List, [], ◌∷◌, Option}
use Rattle.std.proofs.Common.{Some, None, String, Global, string_bytes, refl, sym, ◌∙◌, ap, subst}
use Rattle.std.proofs.lemmas.Bool.{false≢true}
use Rattle.std.proofs.lemmas.Map.Text.{is_eq-slice_cmp}
use Rattle.std.proofs.lemmas.Slice.Eq.{bytes_eq-Decides}
use Rattle.std.specs.BTreeMap.{BTreeMap, get_by_text, is_at}
use Rattle.std.specs.Cmp.Lexicographic.{slice_cmp}
use Rattle.std.specs.Map.{lookup}
use Rattle.std.specs.Ordering.{nat_cmp}
use Rattle.std.specs.Prelude.{bytes_eq, if◌then◌else◌}

-- a text is the same as itself, and tests go both ways
pub bytes_eq-self : (x : List ℕ) → bytes_eq x x ≡ true
bytes_eq-self x = (bytes_eq-Decides x x).1 refl

pub bytes_eq-sym : (x y : List ℕ) → bytes_eq x y ≡ bytes_eq y x
bytes_eq-sym x y = by (bytes_eq x y) (bytes_eq y x) refl refl
  where
    by : (a b : Bool) → bytes_eq x y ≡ a → bytes_eq y x ≡ b → a ≡ b
    by true true h k = refl
    by false false h k = refl
    by true false h k = sym ((bytes_eq-Decides y x).1 (sym ((bytes_eq-Decides x y).0 h))) ∙ k
    by false true h k = sym (sym ((bytes_eq-Decides x y).1 (sym ((bytes_eq-Decides y x).0 k))) ∙ h)

-- tests that imply each other are equal
pub same_bool : (a b : Bool) → (a ≡ true → b ≡ true) → (b ≡ true → a ≡ true) → a ≡ b
same_bool true b there back = sym (there refl)
same_bool false false there back = refl
same_bool false true there back = back refl

-- the entry at a text
abbrev pub entry_at : {V : Type 0} → List ℕ → List (String Global × V) → Option V
entry_at id es = lookup (is_at (λ k. slice_cmp nat_cmp id (string_bytes k))) es

module _ {V : Type 0} (tests : BTreeMap (String Global) V) (wants : Option V → Bool) where
  -- what has been found is wanted, and what is wanted and isn't left has been found
  pub record IsGathered (found : List ℕ → Bool) (rest : List (String Global × V)) : Type 0 where
    pub sound : (id : List ℕ) → found id ≡ true → wants (get_by_text tests id) ≡ true
    pub whole : (id : List ℕ) → entry_at id rest ≡ None → wants (get_by_text tests id) ≡ true
        → found id ≡ true

  pub gathered-start : (found : List ℕ → Bool) (rest : List (String Global × V))
      → ((id : List ℕ) → found id ≡ false) → wants None ≡ false → rest ≡ tests.entries
      → IsGathered found rest
  gathered-start found rest none unwanted all = record {
    sound = λ id h. absurd (false≢true (sym (none id) ∙ h));
    whole =
        λ id gone h.
        absurd (false≢true (sym unwanted ∙ ap wants (sym (ap (entry_at id) (sym all) ∙ gone)) ∙ h));
  }

  pub gathered-end : (found : List ℕ → Bool) → IsGathered found [] → (id : List ℕ)
      → found id ≡ wants (get_by_text tests id)
  gathered-end found g id =
      same_bool (found id) (wants (get_by_text tests id)) (g.sound id) (g.whole id refl)

  module _ (found more : List ℕ → Bool) (k : String Global) (v : V)
      (rest : List (String Global × V)) where
    -- a further entry
    pub gathered-more : get_by_text tests (string_bytes k) ≡ Some v
        → ((id : List ℕ) → bytes_eq id (string_bytes k) ≡ false → more id ≡ found id)
        → (more (string_bytes k) ≡ true → (wants (Some v) ≡ true) ⊎ (found (string_bytes k) ≡ true))
        → (wants (Some v) ≡ true → more (string_bytes k) ≡ true)
        → IsGathered found ((k, v) ∷ rest) → IsGathered more rest
    gathered-more is others back there g = record {
      sound = λ id h. sound id (bytes_eq id (string_bytes k)) refl h;
      whole = λ id gone h. whole id (bytes_eq id (string_bytes k)) refl gone h;
    }
      where
        at_key : (id : List ℕ) → bytes_eq id (string_bytes k) ≡ true → id ≡ string_bytes k
        at_key id e = (bytes_eq-Decides id (string_bytes k)).0 e

        wanted : (wants (Some v) ≡ true) ⊎ (found (string_bytes k) ≡ true)
            → wants (get_by_text tests (string_bytes k)) ≡ true
        wanted (inl h) = ap wants is ∙ h
        wanted (inr h) = g.sound (string_bytes k) h

        sound : (id : List ℕ) (b : Bool) → bytes_eq id (string_bytes k) ≡ b → more id ≡ true
            → wants (get_by_text tests id) ≡ true
        sound id true e h =
            ap (λ n. wants (get_by_text tests n)) (at_key id e)
            ∙ wanted (back (ap more (sym (at_key id e)) ∙ h))
        sound id false e h = g.sound id (sym (others id e) ∙ h)

        passed : (id : List ℕ) → bytes_eq id (string_bytes k) ≡ false
            → entry_at id ((k, v) ∷ rest) ≡ entry_at id rest
        passed id e =
            ap (λ b. if b then Some v else entry_at id rest)
            (is_eq-slice_cmp id (string_bytes k) ∙ e)

        whole : (id : List ℕ) (b : Bool) → bytes_eq id (string_bytes k) ≡ b
            → entry_at id rest ≡ None → wants (get_by_text tests id) ≡ true → more id ≡ true
        whole id true e gone h = ap more (at_key id e) ∙ there
            (ap wants (sym is) ∙ ap (λ n. wants (get_by_text tests n)) (sym (at_key id e)) ∙ h)
        whole id false e gone h = others id e ∙ g.whole id (passed id e ∙ gone) h

-- all of it, where nothing is left
pub gathered-all : {V : Type 0} (tests : BTreeMap (String Global) V) (wants : Option V → Bool)
    (found : List ℕ → Bool) (rest : List (String Global × V))
    → rest ≡ []
    → IsGathered tests wants found rest → (id : List ℕ) → found id ≡ wants (get_by_text tests id)
gathered-all tests wants found rest none g =
    gathered-end tests wants found (subst (λ es. IsGathered tests wants found es) none g)
