-- What is noted of the open setup scripts, after an index is put in or taken out.
use Rattle.std.proofs.Common.{◌≡◌, ℕ, Bool, true, false, cond, ◌&&◌, ◌||◌, List, []}
use Rattle.std.proofs.Common.{◌∷◌, Option, IsSome, refl, ◌∙◌, ap, subst, eq-eqb}
use Rattle.std.proofs.lemmas.List.{nil_from_length}
use Rattle.std.proofs.lemmas.Slice.Eq.{bytes_eq-Decides}
use Rattle.std.specs.BTreeMap.{get_by_text, is_at}
use Rattle.std.specs.BTreeSet.{BTreeSet, contains_by}
use Rattle.std.specs.List.{list_any}
use Rattle.std.specs.Ordering.{nat_cmp}
use Rattle.std.specs.Prelude.{bytes_eq, length}
use Rattle.rec_spans.proofs.Keys.{is_eq-nat_cmp}
use Rattle.rec_spans.specs.Noted.{AreSame, NoneIsEmpty, Notes, Renotes, is_among}

-- the indexes under one id, and under each other id what was there
abbrev pub PutsIndexes : Notes → List ℕ → Option (BTreeSet ℕ) → Notes → Type 0
PutsIndexes old id w new =
    (name : List ℕ) → get_by_text new name ≡ cond (bytes_eq id name) w (get_by_text old name)

module _ (old new : Notes) (id : List ℕ) (w : Option (BTreeSet ℕ))
    (puts : PutsIndexes old id w new) where
  -- an index is noted, or is not, where the others under its id stay
  pub renoted : (index : ℕ) (there : Bool)
      → ((i : ℕ)
      → is_among i w ≡ cond (is_at (nat_cmp index) i) there (is_among i (get_by_text old id)))
      → Renotes there old id index new
  renoted index there changed name i = ap (is_among i) (puts name) ∙ go (bytes_eq id name) refl
    where
      go : (b : Bool) → bytes_eq id name ≡ b
          → is_among i (cond b w (get_by_text old name))
          ≡ cond (b && is_at (nat_cmp index) i) there (is_among i (get_by_text old name))
      go true e =
          changed i
          ∙ ap (λ n. cond (is_at (nat_cmp index) i) there (is_among i (get_by_text old n)))
          ((bytes_eq-Decides id name).0 e)
      go false e = refl

  -- nothing changes
  pub same_noted : ((i : ℕ) → is_among i w ≡ is_among i (get_by_text old id)) → AreSame old new
  same_noted same name i = ap (is_among i) (puts name) ∙ go (bytes_eq id name) refl
    where
      go : (b : Bool) → bytes_eq id name ≡ b
          → is_among i (cond b w (get_by_text old name)) ≡ is_among i (get_by_text old name)
      go true e = same i ∙ ap (λ n. is_among i (get_by_text old n)) ((bytes_eq-Decides id name).0 e)
      go false e = refl

  -- no id is empty, where the indexes under this one, if it is kept, aren't
  pub none_empty : (IsSome w → (i : ℕ) × (is_among i w ≡ true)) → NoneIsEmpty old → NoneIsEmpty new
  none_empty some none name kept =
      let found = go (bytes_eq id name) (subst IsSome (puts name) kept) in
      (found.0, ap (is_among found.0) (puts name) ∙ found.1)
    where
      go : (b : Bool) → IsSome (cond b w (get_by_text old name))
          → (i : ℕ) × (is_among i (cond b w (get_by_text old name)) ≡ true)
      go true = some
      go false = none name

-- what was put under an id is taken out again
pub put_twice : (old mid new : Notes) (id : List ℕ) (v w : Option (BTreeSet ℕ))
    → PutsIndexes old id v mid → PutsIndexes mid id w new → PutsIndexes old id w new
put_twice old mid new id v w first second name =
    second name ∙ ap (cond (bytes_eq id name) w) (first name) ∙ go (bytes_eq id name)
  where
    go : (b : Bool) → cond b w (cond b v (get_by_text old name)) ≡ cond b w (get_by_text old name)
    go true = refl
    go false = refl

-- no index is among none
pub none_among : (s : BTreeSet ℕ) (i : ℕ) → s.keys ≡ [] → contains_by (nat_cmp i) s ≡ false
none_among s i none = ap (list_any (is_at (nat_cmp i))) none

pub none_among_len : (s : BTreeSet ℕ) (i : ℕ) → length s.keys ≡ 0
    → contains_by (nat_cmp i) s ≡ false
none_among_len s i none = none_among s i (nil_from_length s.keys none)

-- some index is among some
pub some_among : (s : BTreeSet ℕ) → (length s.keys ≡ 0 → ⊥)
    → (i : ℕ) × (contains_by (nat_cmp i) s ≡ true)
some_among s some = go s.keys some
  where
    go : (ks : List ℕ) → (length ks ≡ 0 → ⊥) → (i : ℕ) × (list_any (is_at (nat_cmp i)) ks ≡ true)
    go [] some = absurd (some refl)
    go (k ∷ ks) some =
        (k, ap (λ b. b || list_any (is_at (nat_cmp k)) ks) (is_eq-nat_cmp k k ∙ eq-eqb k k refl))
