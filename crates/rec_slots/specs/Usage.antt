-- How the slots of a run are used.
use Rattle.std.specs.List.Sorted.{IsStrictlySortedBy}
use Rattle.std.specs.List.{AllByRecursion, list_any}
use Rattle.std.specs.Ordering.{nat_cmp}
use Rattle.std.specs.Prelude.{◌≡◌, ℕ, suc, ◌+◌, ◌==◌, pos, ◌-ℤ◌}
use Rattle.std.specs.Prelude.{Bool, not, List, map, slice_get, Some}
use Rattle.rec_spans.specs.declared.settings.ChromeTraceGroupBy.TheVariants.{Slot}
use Rattle.rec_spans.specs.declared.spans.Place.TheVariants as places
use Rattle.rec_spans.specs.declared.spans.Span.{Span}
use Rattle.rec_spans.specs.Kinds.{history}
use Rattle.rec_spans.specs.Past.{in_place, is_paused, open_spans}
use Rattle.rec_spans.specs.Plain.{PlainEvent}
use Rattle.rec_spans.specs.Positions.{past_at}
use Rattle.rec_spans.specs.Refusals.{is_none_open}
use Rattle.rec_slots.specs.Acts.Act.{RunStarts, RunEnds}
use Rattle.rec_slots.specs.Acts.{acts}
use Rattle.rec_slots.specs.declared.report.SlotReport.{SlotReport}
use Rattle.rec_slots.specs.declared.report.SlotUsage.{SlotUsage}
use Rattle.rec_slots.specs.Gaps.GapKind.{busy, idle, paused}
use Rattle.rec_slots.specs.Gaps.{GapKind, gap_kind, time_of}
use Rattle.rec_slots.specs.Runs.{IsOneRun, instant, starts_on}

-- whether one of these spans is on a slot
abbrev pub is_held : ℕ → List Span → Bool
is_held slot spans = not (is_none_open (in_place (places.Slot slot) spans))

-- what a slot does in the gap after the event at a place
abbrev pub slot_kind : List PlainEvent → ℕ → ℕ → GapKind
slot_kind events slot j =
    let past = past_at (history Slot events) (suc j) in
    gap_kind (is_paused past) (is_held slot (open_spans past))

-- the run goes from the event at `start` over so many gaps to its end
pub record RunsFrom (events : List PlainEvent) (start gaps : ℕ) : Type 0 where
  pub one : IsOneRun events
  pub begins : slice_get (acts events) start ≡ Some RunStarts
  pub ends : slice_get (acts events) (start + gaps) ≡ Some RunEnds

-- the usage of a slot: the time of its gaps of each kind, which adds up to the length of the run
pub record IsUsage (events : List PlainEvent) (start gaps run_length : ℕ)
    (u : SlotUsage) : Type 0 where
  pub busy_is : pos u.busy ≡ time_of (instant events) (slot_kind events u.slot) busy start gaps
  pub paused_is : pos u.paused
      ≡ time_of (instant events) (slot_kind events u.slot) paused start gaps
  pub idle_is : pos u.idle ≡ time_of (instant events) (slot_kind events u.slot) idle start gaps
  pub sum : u.busy + u.paused + u.idle ≡ run_length

-- each slot on which an attempt starts is there with its usage, once, in rising order,
-- and no other slot is
pub record IsReport (events : List PlainEvent) (r : SlotReport) : Type 0 where
  pub start : ℕ
  pub gaps : ℕ
  pub run : RunsFrom events start gaps
  pub run_length : pos r.run_length ≡ instant events (start + gaps) -ℤ instant events start
  pub usage : AllByRecursion (IsUsage events start gaps r.run_length) r.slots
  pub rise : IsStrictlySortedBy nat_cmp (map (λ (u : SlotUsage). u.slot) r.slots)
  pub each : (slot : ℕ)
      → list_any (λ (u : SlotUsage). slot == u.slot) r.slots
      ≡ list_any (starts_on slot) (acts events)
