-- Why there is no report of the slots of a run.
use Rattle.std.specs.Prelude.{◌≡◌, ℕ, suc, ◌<◌, List, Some, None, Result, Ok, Err}
use Rattle.rec_spans.specs.declared.errors.ChromeTraceError.TheVariants as spans
use Rattle.rec_spans.specs.declared.errors.ChromeTraceError.{ChromeTraceError}
use Rattle.rec_spans.specs.declared.settings.ChromeTraceGroupBy.TheVariants.{Slot}
use Rattle.rec_spans.specs.Plain.{PlainEvent}
use Rattle.rec_spans.specs.Refusals.{events_refusal}
use Rattle.rec_slots.specs.declared.report.SlotError.TheVariants.{
  Refused,
  NotOneRun,
  AttemptOutside,
  StampFell,
  OutOfMemory,
}
use Rattle.rec_slots.specs.declared.report.SlotError.{SlotError}
use Rattle.rec_slots.specs.declared.report.SlotReport.{SlotReport}
use Rattle.rec_slots.specs.Runs.{Falls, IsOneRun, IsOutside}
use Rattle.rec_slots.specs.Usage.{IsReport}

-- of the places with a property this is the first
pub record IsFirst (P : ℕ → Type 0) (i : ℕ) : Type 0 where
  pub holds : P i
  pub none : (k : ℕ) → k < i → ¬ P k

-- no place has the property
abbrev pub No : (ℕ → Type 0) → Type 0
No P = (k : ℕ) → ¬ P k

-- the number of the first event at whose place the property holds
abbrev pub IsNumberOfFirst : (ℕ → Type 0) → ℕ → Type 0
IsNumberOfFirst P event = (i : ℕ) × (event ≡ suc i) × IsFirst P i

-- want of memory as such, every other refusal of a history as one
abbrev pub slot_refusal_error : ChromeTraceError → SlotError
slot_refusal_error spans.OutOfMemory = OutOfMemory
slot_refusal_error (spans.ReadError e) = Refused (spans.ReadError e)
slot_refusal_error (spans.MissingTestStart n b t) = Refused (spans.MissingTestStart n b t)
slot_refusal_error (spans.MissingScriptStart n id) = Refused (spans.MissingScriptStart n id)
slot_refusal_error (spans.MissingStressSubRunStart n) = Refused (spans.MissingStressSubRunStart n)
slot_refusal_error (spans.SpanAlreadyOpen n k) = Refused (spans.SpanAlreadyOpen n k)
slot_refusal_error (spans.SlotBusy n slot) = Refused (spans.SlotBusy n slot)
slot_refusal_error (spans.TimestampOutOfRange n) = Refused (spans.TimestampOutOfRange n)
slot_refusal_error (spans.RowOutOfRange n k) = Refused (spans.RowOutOfRange n k)
slot_refusal_error (spans.CountOutOfRange n) = Refused (spans.CountOutOfRange n)

-- a trace of the events would not be refused
abbrev pub IsAccepted : List PlainEvent → Type 0
IsAccepted events = events_refusal Slot events ≡ None

-- why there is no report: the first cause in this order
abbrev pub IsRefused : List PlainEvent → SlotError → Type 0
IsRefused events (Refused e) = events_refusal Slot events ≡ Some e
IsRefused events NotOneRun = IsAccepted events × ¬ IsOneRun events
IsRefused events (AttemptOutside event) =
    IsAccepted events × IsOneRun events × IsNumberOfFirst (IsOutside events) event
IsRefused events (StampFell event) =
    IsAccepted events × IsOneRun events × No (IsOutside events)
    × IsNumberOfFirst (Falls events) event
IsRefused events OutOfMemory = Unit {0}

-- a report is answered exactly where nothing is refused, but for want of memory
abbrev pub Reports : List PlainEvent → Result SlotReport SlotError → Type 0
Reports events (Ok r) =
    IsReport events r × IsAccepted events × No (IsOutside events) × No (Falls events)
Reports events (Err e) = IsRefused events e
