-- Whether a test is registered, by the order in which the set has its tests.
use Rattle.std.proofs.Common.{◌≡◌, ◌||◌, Bool, true, false, cond, Some}
use Rattle.std.proofs.Common.{None, if◌then◌else◌, refl, sym, ◌∙◌, ap}
use Rattle.std.specs.BTreeMap.{is_at}
use Rattle.std.specs.BTreeSet.{BTreeSet, contains_by}
use Rattle.std.specs.declared.cmp.Ordering.TheVariants.{Equal}
use Rattle.std.specs.List.{list_any}
use Rattle.std.specs.Ordering.{is_eq}
use Rattle.rec_events.proofs.TestOrder.{same_test, test_eq-true}
use Rattle.rec_events.specs.contracts.instances.OwnedTestInstanceIdOrd.TheImpl as tests
use Rattle.rec_events.specs.declared.instances.OwnedTestInstanceId.{OwnedTestInstanceId}
use Rattle.rec_events.specs.Tests.{test_eq}
use Rattle.rec_replay.specs.Registration.{is_registered}

-- the order of the set finds what is registered
registered_by : (s : BTreeSet OwnedTestInstanceId) (t : OwnedTestInstanceId)
    → contains_by (tests.cmp-value.it t) s ≡ is_registered s t
registered_by s t =
    ap (λ (f : OwnedTestInstanceId → Bool). list_any f s.keys) (λ i u. same_test t u i)

-- the test that is found is the one that is asked for
pub found : (s : BTreeSet OwnedTestInstanceId) (t k : OwnedTestInstanceId)
    → tests.cmp-value.it t k ≡ Equal → true ≡ contains_by (tests.cmp-value.it t) s
    → Some k ≡ (if is_registered s t then Some t else None)
found s t k same there =
    ap Some (sym (test_eq-true t k (sym (same_test t k) ∙ ap is_eq same)))
    ∙ ap (λ b. if b then Some t else None) (there ∙ registered_by s t)

pub not_found : (s : BTreeSet OwnedTestInstanceId) (t : OwnedTestInstanceId)
    → false ≡ contains_by (tests.cmp-value.it t) s
    → None ≡ (if is_registered s t then Some t else None)
not_found s t missing = ap (λ b. if b then Some t else None) (missing ∙ registered_by s t)

cond_or : (a b : Bool) → cond a true b ≡ (a || b)
cond_or true b = refl
cond_or false b = refl

-- one more test is registered
pub registers : (s n : BTreeSet OwnedTestInstanceId) (k : OwnedTestInstanceId)
    → ((q : OwnedTestInstanceId) → contains_by (tests.cmp-value.it q) n
    ≡ cond (is_at (tests.cmp-value.it k) q) true (contains_by (tests.cmp-value.it q) s))
    → (t : OwnedTestInstanceId) → is_registered n t ≡ (test_eq k t || is_registered s t)
registers s n k h t =
    sym (registered_by n t) ∙ h t
    ∙ ap (λ b. cond b true (contains_by (tests.cmp-value.it t) s)) (same_test k t)
    ∙ ap (cond (test_eq k t) true) (registered_by s t)
    ∙ cond_or (test_eq k t) (is_registered s t)
