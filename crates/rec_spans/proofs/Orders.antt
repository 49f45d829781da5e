-- The orders of places, of tests and of binaries, by which maps find them,
-- are those of the definitions.
use Rattle.std.proofs.Common.{◌≡◌, ℕ, List, Option, cond, refl, sym, ◌∙◌, ap, subst}
use Rattle.std.proofs.lemmas.Map.Text.{is_eq-slice_cmp}
use Rattle.std.specs.BTreeMap.{BTreeMap, IsOrdered, UpdatesBy, get_by, insert_entry, is_at}
use Rattle.std.specs.List.Sorted.{IsStrictlySortedBy}
use Rattle.std.specs.Map.{keys_of, lookup, remove_entry}
use Rattle.std.specs.Ordering.{is_eq}
use Rattle.rec_events.proofs.TestOrder.{same_test, tests_at}
use Rattle.rec_events.specs.contracts.ids.RustBinaryIdOrd.TheImpl as binaries
use Rattle.rec_events.specs.contracts.instances.OwnedTestInstanceIdOrd.TheImpl as tests
use Rattle.rec_events.specs.declared.instances.OwnedTestInstanceId.{OwnedTestInstanceId}
use Rattle.rec_events.specs.Tests.{test_eq}
use Rattle.rec_spans.specs.contracts.spans.PlaceOrd.TheImpl as derived
use Rattle.rec_spans.specs.declared.spans.Place.TheVariants.{Run, SubRun, Slot, Script}
use Rattle.rec_spans.specs.declared.spans.Place.{Place}
use Rattle.rec_spans.specs.declared.spans.Span.{Span}
use Rattle.rec_spans.specs.Opened.{without_binary}
use Rattle.rec_spans.specs.Past.{number_of}
use Rattle.rec_spans.specs.Places.{place_cmp}
use Rattle.rec_spans.specs.Tied.{at, slot_of}

-- ---- places

same_place : (a b : Place) → derived.cmp-value.it a b ≡ place_cmp a b
same_place Run Run = refl
same_place Run SubRun = refl
same_place Run (Slot n) = refl
same_place Run (Script n) = refl
same_place SubRun Run = refl
same_place SubRun SubRun = refl
same_place SubRun (Slot n) = refl
same_place SubRun (Script n) = refl
same_place (Slot m) Run = refl
same_place (Slot m) SubRun = refl
same_place (Slot m) (Slot n) = refl
same_place (Slot m) (Script n) = refl
same_place (Script m) Run = refl
same_place (Script m) SubRun = refl
same_place (Script m) (Slot n) = refl
same_place (Script m) (Script n) = refl

-- the order that maps use is that of the definitions
pub places : derived.cmp-value.it ≡ place_cmp
places = λ i a b. same_place a b i

-- ---- tests

-- what a map has at a test is its slot
pub slot-get : (m : BTreeMap OwnedTestInstanceId ℕ) (t : OwnedTestInstanceId)
    → get_by (tests.cmp-value.it t) m ≡ slot_of m.entries t
slot-get m t = ap (λ f. lookup (f t) m.entries) tests_at

-- what a change of a map at a test leaves
pub slot-updates : (t : OwnedTestInstanceId) (m n : BTreeMap OwnedTestInstanceId ℕ) (w : Option ℕ)
    → UpdatesBy tests.cmp-value.it (tests.cmp-value.it t) m n w
    → (q : OwnedTestInstanceId) → slot_of n.entries q ≡ cond (test_eq t q) w (slot_of m.entries q)
slot-updates t m n w h q =
    sym (slot-get n q) ∙ h.0 q
    ∙ ap (λ b. cond b w (get_by (tests.cmp-value.it q) m)) (same_test t q)
    ∙ ap (cond (test_eq t q) w) (slot-get m q)

-- what a map has at a place, and what a change there leaves
pub span-get : (m : BTreeMap Place Span) (p : Place)
    → get_by (derived.cmp-value.it p) m ≡ at m.entries p
span-get m p = ap (λ f. get_by (f p) m) places

pub span-updates : (p : Place) (m n : BTreeMap Place Span) (w : Option Span)
    → UpdatesBy derived.cmp-value.it (derived.cmp-value.it p) m n w
    → (q : Place) → at n.entries q ≡ cond (is_at (place_cmp p) q) w (at m.entries q)
span-updates p m n w h q =
    sym (span-get n q) ∙ h.0 q
    ∙ ap (λ o. cond (is_eq o) w (get_by (derived.cmp-value.it q) m)) (same_place p q)
    ∙ ap (cond (is_at (place_cmp p) q) w) (span-get m q)

pub span-insert : (es es' : List (Place × Span)) (p : Place) (s : Span)
    → es' ≡ insert_entry derived.cmp-value.it es p s → es' ≡ insert_entry place_cmp es p s
span-insert es es' p s h = h ∙ ap (λ f. insert_entry f es p s) places

pub span-remove : (es es' : List (Place × Span)) (p : Place)
    → es' ≡ remove_entry (is_at (derived.cmp-value.it p)) es
    → es' ≡ remove_entry (is_at (place_cmp p)) es
span-remove es es' p h = h ∙ ap (λ f. remove_entry (is_at (f p)) es) places

-- the places of a map ascend
pub span-ordered : (m : BTreeMap Place Span) → IsOrdered derived.cmp-value.it m
    → IsStrictlySortedBy place_cmp (keys_of m.entries)
span-ordered m h = subst (λ f. IsStrictlySortedBy f (keys_of m.entries)) places h

-- ---- binaries

-- what a map has at a binary is its number
pub binary-get : (m : BTreeMap (List ℕ) ℕ) (b : List ℕ)
    → get_by (binaries.cmp-value.it b) m ≡ number_of b m.entries
binary-get m b = ap (λ f. lookup f m.entries) (λ i c. is_eq-slice_cmp b c i)

-- what is left of a map without a binary
pub binary-remove : (b : List ℕ) (es es' : List (List ℕ × ℕ))
    → es' ≡ remove_entry (is_at (binaries.cmp-value.it b)) es → es' ≡ without_binary b es
binary-remove b es es' h = h ∙ ap (λ f. remove_entry f es) (λ i c. is_eq-slice_cmp b c i)
