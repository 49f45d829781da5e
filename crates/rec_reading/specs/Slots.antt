-- What is printed of a run for those who want to know how its slots were used.
use Rattle.std.specs.Fmt.{decimal}
use Rattle.std.specs.List.{flat_map}
use Rattle.std.specs.Prelude.{◌≡◌, ◌≢◌, ◌⊎◌, ℕ, List, [], ◌∷◌, ◌++◌, map, Result, Ok, Err, codes}
use Rattle.rec_container.specs.Container.{Entry}
use Rattle.rec_codec.specs.Event.{RecordedEvent}
use Rattle.rec_spans.specs.Plain.{PlainEvent, plain}
use Rattle.rec_slots.specs.declared.report.SlotError.TheVariants as causes
use Rattle.rec_slots.specs.declared.report.SlotError.{SlotError}
use Rattle.rec_slots.specs.declared.report.SlotReport.{SlotReport}
use Rattle.rec_slots.specs.declared.report.SlotUsage.{SlotUsage}
use Rattle.rec_slots.specs.Refusals.{IsAccepted, IsRefused, No, Reports}
use Rattle.rec_slots.specs.Runs.{Falls, IsOneRun, IsOutside}
use Rattle.rec_errors.specs.declared.reading_error.ReadingError.{ReadingError}
use Rattle.rec_errors.specs.ReadingErrors.{slot_error}
use Rattle.rec_reading.specs.LogEvents.{run_events}

-- ---- the text

unfoldable pub run_line : ℕ → List ℕ
run_line run_length = codes "run=" ++ (decimal run_length ++ 10 ∷ [])

unfoldable pub slot_line : SlotUsage → List ℕ
slot_line u =
    codes "slot=" ++ (decimal u.slot ++ (codes " busy=" ++ (decimal u.busy ++ (codes " paused="
    ++ (decimal u.paused ++ (codes " idle=" ++ (decimal u.idle ++ 10 ∷ [])))))))

-- the length of the run, and then each slot
abbrev pub slot_lines : SlotReport → List ℕ
slot_lines r = run_line r.run_length ++ flat_map slot_line r.slots

-- ---- what is printed, or why nothing is

-- the report of the run in these events is printed; or there is none,
-- for a cause that isn't want of memory
abbrev pub PrintsUsage : List PlainEvent → Result (List ℕ) ReadingError → Type 0
PrintsUsage events (Ok text) = (r : SlotReport) × Reports events (Ok r) × (text ≡ slot_lines r)
PrintsUsage events (Err e) =
    (cause : SlotError) × (cause ≢ causes.OutOfMemory) × IsRefused events cause
    × (e ≡ slot_error cause)

-- the events of the log come before what is reported of them
abbrev pub PrintsSlots : ℕ → List Entry → Result (List ℕ) ReadingError → Type 0
PrintsSlots limit es (Ok text) =
    (events : List RecordedEvent) × (run_events limit es ≡ Ok events)
    × PrintsUsage (map plain events) (Ok text)
PrintsSlots limit es (Err e) =
    (run_events limit es ≡ Err e)
    ⊎ ((events : List RecordedEvent) × (run_events limit es ≡ Ok events)
    × PrintsUsage (map plain events) (Err e))

-- nothing keeps the slots of the run in these events from a report
pub record HasUsage (events : List PlainEvent) : Type 0 where
  pub accepted : IsAccepted events
  pub one : IsOneRun events
  pub inside : No (IsOutside events)
  pub steady : No (Falls events)
