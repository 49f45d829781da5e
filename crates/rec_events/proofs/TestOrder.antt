-- The order of tests, by which maps and sets find them, finds the same test;
-- and a test is the same as itself alone.
use Rattle.std.proofs.Common.{◌≡◌, ◌&&◌, true, refl, ◌∙◌, ap, bytes_eq}
use Rattle.std.proofs.lemmas.Bool.{and_parts, and_from}
use Rattle.std.proofs.lemmas.Map.Text.{is_eq-slice_cmp}
use Rattle.std.proofs.lemmas.Slice.Eq.{bytes_eq-Decides}
use Rattle.std.specs.BTreeMap.{is_at}
use Rattle.std.specs.Cmp.Lexicographic.{slice_cmp}
use Rattle.std.specs.declared.cmp.Ordering.TheVariants.{Less, Equal, Greater}
use Rattle.std.specs.declared.cmp.Ordering.{Ordering}
use Rattle.std.specs.Ordering.{is_eq, nat_cmp, ordering_then}
use Rattle.rec_events.specs.contracts.instances.OwnedTestInstanceIdOrd.TheImpl as tests
use Rattle.rec_events.specs.declared.instances.OwnedTestInstanceId.{OwnedTestInstanceId}
use Rattle.rec_events.specs.Tests.{test_eq}

-- an order by two comparisons is equal where both are
pub is_eq-then : (a b : Ordering) → is_eq (ordering_then a b) ≡ (is_eq a && is_eq b)
is_eq-then Less b = refl
is_eq-then Equal b = refl
is_eq-then Greater b = refl

pub same_test : (s t : OwnedTestInstanceId) → is_at (tests.cmp-value.it s) t ≡ test_eq s t
same_test s t =
    is_eq-then (slice_cmp nat_cmp s.binary_id t.binary_id)
    (slice_cmp nat_cmp s.test_name t.test_name)
    ∙ ap (λ b. b && is_eq (slice_cmp nat_cmp s.test_name t.test_name))
    (is_eq-slice_cmp s.binary_id t.binary_id)
    ∙ ap (λ b. bytes_eq s.binary_id t.binary_id && b) (is_eq-slice_cmp s.test_name t.test_name)

pub tests_at : (λ (s t : OwnedTestInstanceId). is_at (tests.cmp-value.it s) t) ≡ test_eq
tests_at = λ i s t. same_test s t i

-- tests that pass as the same are equal
pub test_eq-true : (s t : OwnedTestInstanceId) → test_eq s t ≡ true → s ≡ t
test_eq-true s t e =
    let p = and_parts (bytes_eq s.binary_id t.binary_id) (bytes_eq s.test_name t.test_name) e in
    let x = (bytes_eq-Decides s.binary_id t.binary_id).0 p.0 in
    let y = (bytes_eq-Decides s.test_name t.test_name).0 p.1 in
    λ i. record { binary_id = x i; test_name = y i }

-- a test is the same as itself
pub test_eq-self : (t : OwnedTestInstanceId) → test_eq t t ≡ true
test_eq-self t =
    and_from (bytes_eq t.binary_id t.binary_id) (bytes_eq t.test_name t.test_name)
    ((bytes_eq-Decides t.binary_id t.binary_id).1 refl)
    ((bytes_eq-Decides t.test_name t.test_name).1 refl)
