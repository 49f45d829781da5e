-- How the two maps go together that keep what is open: the slots of the tests,
-- and the spans by their places.
use Rattle.std.specs.BTreeMap.{insert_entry, is_at}
use Rattle.std.specs.Map.{lookup, keys_of, remove_entry, values_of}
use Rattle.std.specs.Prelude.{◌≡◌, ℕ, List, map, Option, None, Some, IsSome}
use Rattle.std.specs.Prelude.{option_and_then, option_map, option_to_list, if◌then◌else◌}
use Rattle.rec_events.specs.declared.instances.OwnedTestInstanceId.{OwnedTestInstanceId}
use Rattle.rec_events.specs.Tests.{test_eq}
use Rattle.rec_spans.specs.declared.spans.Place.TheVariants as places
use Rattle.rec_spans.specs.declared.spans.Place.{Place}
use Rattle.rec_spans.specs.declared.spans.Span.{Span}
use Rattle.rec_spans.specs.declared.spans.SpanKey.TheVariants as keys
use Rattle.rec_spans.specs.declared.spans.SpanKey.{SpanKey}
use Rattle.rec_spans.specs.Past.{in_place, of_key}
use Rattle.rec_spans.specs.Places.{place_cmp, place_eq}

-- what stands at a place
abbrev pub at : List (Place × Span) → Place → Option Span
at spans p = lookup (λ q. is_at (place_cmp p) q) spans

-- the slot of a test
abbrev pub slot_of : List (OwnedTestInstanceId × ℕ) → OwnedTestInstanceId → Option ℕ
slot_of slots test = lookup (λ t. test_eq test t) slots

-- where the span of a key stands, if it is open
abbrev pub place_of : List (OwnedTestInstanceId × ℕ) → SpanKey → Option Place
place_of slots keys.Run = Some places.Run
place_of slots keys.SubRun = Some places.SubRun
place_of slots (keys.Script index) = Some (places.Script index)
place_of slots (keys.Test test) = option_map places.Slot (slot_of slots test)

pub record AreTied (slots : List (OwnedTestInstanceId × ℕ))
    (spans : List (Place × Span)) : Type 0 where
  pub under_place : keys_of spans ≡ map (λ s. s.place) (values_of spans)
  pub at_place : (p : Place) → in_place p (values_of spans) ≡ option_to_list (at spans p)
  pub at_key : (k : SpanKey)
      → of_key k (values_of spans) ≡ option_to_list (option_and_then (at spans) (place_of slots k))
  pub held : (test : OwnedTestInstanceId) (slot : ℕ) → slot_of slots test ≡ Some slot
      → IsSome (at spans (places.Slot slot))

-- a span is put in at its place
abbrev pub PutsIn : Span → List (Place × Span) → List (Place × Span) → Type 0
PutsIn s old new =
    (new ≡ insert_entry place_cmp old s.place s)
    × ((p : Place) → at new p ≡ (if place_eq s.place p then Some s else at old p))

-- what stands at a place is taken out
abbrev pub TakesOut : Place → List (Place × Span) → List (Place × Span) → Type 0
TakesOut place old new =
    (new ≡ remove_entry (is_at (place_cmp place)) old)
    × ((p : Place) → at new p ≡ (if place_eq place p then None else at old p))

-- a test has this slot, or none
abbrev pub SetsSlot : OwnedTestInstanceId → Option ℕ → List (OwnedTestInstanceId × ℕ)
    → List (OwnedTestInstanceId × ℕ) → Type 0
SetsSlot test slot old new =
    (t : OwnedTestInstanceId) → slot_of new t ≡ (if test_eq test t then slot else slot_of old t)
