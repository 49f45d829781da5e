-- The events of a log.
use Rattle.std.specs.declared.alloc.Global.{Global}
use Rattle.std.specs.Prelude.{◌≡◌, ◌⊎◌, ℕ, List, option_map, Result, Ok, Err, Vec, ⊤}
use Rattle.rec_container.specs.Container.{Entry}
use Rattle.rec_container.specs.Reading.{◌>>=◌}
use Rattle.rec_codec.specs.Event.{RecordedEvent}
use Rattle.rec_codec.specs.LineReading.{events_before_fault, first_line_fault}
use Rattle.rec_codec.specs.Lines.{NumberedLine}
use Rattle.rec_portable.specs.OuterEntries.{log_part}
use Rattle.rec_errors.specs.declared.reading_error.ReadingError.TheVariants.{OutOfMemory}
use Rattle.rec_errors.specs.declared.reading_error.ReadingError.{ReadingError}
use Rattle.rec_errors.specs.ReadingErrors.{line_error}
use Rattle.rec_reading.specs.Converting.{unless_refused}
use Rattle.rec_reading.specs.LogLines.{log_lines}
use Rattle.rec_reading.specs.RunParts.{of_bundle}

-- the events of lines, or the fault of the first line that gives none
abbrev pub events_of : List NumberedLine → Result (List RecordedEvent) ReadingError
events_of lines =
    unless_refused (option_map line_error (first_line_fault lines)) (events_before_fault lines)

-- the events of lines were taken, or one of the lines gives none, or memory ran out
abbrev pub TakesLines : (List RecordedEvent → Type 0) → List NumberedLine → Result ⊤ ReadingError
    → Type 0
TakesLines have_been lines (Ok done) =
    (events : List RecordedEvent) × (events_of lines ≡ Ok events) × have_been events
TakesLines have_been lines (Err e) = (e ≡ OutOfMemory) ⊎ (events_of lines ≡ Err e)

-- the events of a bundle's log: the log is read first, and then its lines
abbrev pub run_events : ℕ → List Entry → Result (List RecordedEvent) ReadingError
run_events limit es = do
  log ← of_bundle (log_part limit es)
  events_of (log_lines log)

-- these events were read, or why they aren't, but for want of memory
abbrev pub ReadsEvents : Result (List RecordedEvent) ReadingError
    → Result (Vec RecordedEvent Global) ReadingError → Type 0
ReadsEvents expected (Ok events) = expected ≡ Ok events.items
ReadsEvents expected (Err e) = (e ≡ OutOfMemory) ⊎ (expected ≡ Err e)
