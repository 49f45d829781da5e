-- The tests that are registered, one after the other.
use Rattle.std.proofs.Common.{◌≡◌, ◌||◌, ℕ, ◌+◌, ◌<◌, Bool, true, false, List}
use Rattle.std.proofs.Common.{[], length, take, get_or, refl, sym, ap, ◌∙◌}
use Rattle.std.proofs.lemmas.List.Folds.{list_any_more}
use Rattle.std.specs.BTreeSet.{BTreeSet}
use Rattle.std.specs.List.{list_any}
use Rattle.rec_events.specs.declared.instances.OwnedTestInstanceId.{OwnedTestInstanceId}
use Rattle.rec_events.specs.Tests.{is_named, test_eq, test_of}
use Rattle.rec_replay.specs.Registration.{is_registered}

-- one more before others, as one more after them
or-after : (a b c : Bool) → (b || (a || c)) ≡ ((a || b) || c)
or-after false b c = refl
or-after true false c = refl
or-after true true c = refl

-- one more suite
pub suite-more : (suite rest mid all new : Bool) → ((suite || rest) || mid) ≡ all
    → new ≡ (suite || mid) → (rest || new) ≡ all
suite-more suite rest mid all new h is = ap (λ b. rest || b) is ∙ or-after suite rest mid ∙ h

-- one more test of a suite
pub name-more : (binary : List ℕ) (names : List (List ℕ)) (i : ℕ) (name : List ℕ)
    (t : OwnedTestInstanceId) (old mid new : Bool)
    → i < length names → name ≡ get_or names i name
    → mid ≡ (is_named binary (take i names) t || old)
    → new ≡ (test_eq (test_of binary name) t || mid)
    → new ≡ (is_named binary (take (i + 1) names) t || old)
name-more binary names i name t old mid new below here h is =
    let named : Bool = test_eq (test_of binary name) t in
    is ∙ ap (λ b. named || b) h ∙ or-before named (is_named binary (take i names) t) old
    ∙ ap (λ b. b || old)
    (ap (λ n. is_named binary (take i names) t || test_eq (test_of binary n) t) here
    ∙ sym (list_any_more (λ n. test_eq (test_of binary n) t) names i name below))
  where
    or-before : (a b c : Bool) → (a || (b || c)) ≡ ((b || a) || c)
    or-before a false c = refl
    or-before false true c = refl
    or-before true true c = refl

-- the tests that were registered, where none was before
pub all-registered : (before : BTreeSet OwnedTestInstanceId) (t : OwnedTestInstanceId)
    (named now : Bool)
    → before.keys ≡ [] → now ≡ (named || is_registered before t) → now ≡ named
all-registered before t named now none is =
    is ∙ ap (λ keys. named || list_any (test_eq t) keys) none ∙ or-false named
  where
    or-false : (b : Bool) → (b || false) ≡ b
    or-false false = refl
    or-false true = refl
