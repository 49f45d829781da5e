-- What is printed of events, one after the other.
use Rattle.std.specs.Borrow.{Bor}
use Rattle.std.specs.Prelude.{◌≡◌, ◌⊎◌, ℕ, List, [], ◌∷◌, ◌++◌, map, codes}
use Rattle.std.specs.Prelude.{Option, Some, None, option_map, Result, Ok, Err, ⊤}
use Rattle.serde_json.specs.Written.{compact_text}
use Rattle.rec_container.specs.Reading.{◌>>=◌}
use Rattle.rec_events.specs.declared.live_events.TestEvent.{TestEvent}
use Rattle.rec_events.specs.declared.recording.NextestRunMode.{NextestRunMode}
use Rattle.rec_events.specs.TestLists.{Tests}
use Rattle.rec_codec.specs.declared.line_events.LineError.{LineError}
use Rattle.rec_codec.specs.Event.{RecordedEvent}
use Rattle.rec_replay.specs.Lines.{line_text}
use Rattle.rec_junit.specs.declared.report.JunitReport.{JunitReport}
use Rattle.rec_junit.specs.Describing.{plain_text}
use Rattle.rec_junit.specs.Histories.{refusal_of, report_after}
use Rattle.rec_junit.specs.Values.{report_value}
use Rattle.rec_errors.specs.declared.reading_error.ReadingError.TheVariants.{OutOfMemory, Report}
use Rattle.rec_errors.specs.declared.reading_error.ReadingError.{ReadingError}
use Rattle.rec_errors.specs.ReadingErrors.{line_error}
use Rattle.rec_reading.specs.Converting.{lent, unless_refused}

-- ---- what a printer prints: a text for an event after others, or a refusal

abbrev pub Prints : Type 0
Prints = List TestEvent → TestEvent → Result (List ℕ) ReadingError

-- it doesn't matter where the run's tests stand in memory
abbrev pub IsBlind : Prints → Type 0
IsBlind prints =
    (list : Bor Tests) (past : List TestEvent) (e : TestEvent)
    → prints (map (lent list) past) (lent list e) ≡ prints past e

-- a text, and then the rest, unless this is refused
abbrev pub before : List ℕ → Result (List ℕ) ReadingError → Result (List ℕ) ReadingError
before text (Ok rest) = Ok (text ++ rest)
before text (Err e) = Err e

-- a text was added to another, or this refusal was answered, but for want of memory; what is left
-- of the text then is free
abbrev pub Adds : Result (List ℕ) ReadingError → List ℕ → List ℕ → Result ⊤ ReadingError → Type 0
Adds expected old new (Ok done) = (added : List ℕ) × (expected ≡ Ok added) × (new ≡ old ++ added)
Adds expected old new (Err e) = (e ≡ OutOfMemory) ⊎ (expected ≡ Err e)

-- ---- what is printed of the items of a log

module _ (prints : Prints) (converted : RecordedEvent → Result TestEvent ReadingError) where
  -- after these live events: the first item that can't be read, converted or printed decides
  abbrev pub text_from : List TestEvent → List (Result RecordedEvent LineError)
      → Result (List ℕ) ReadingError
  text_from past [] = Ok []
  text_from past (Err fault ∷ items) = Err (line_error fault)
  text_from past (Ok e ∷ items) =
      converted e
      >>= (λ live. prints past live >>= (λ text. before text (text_from (past ++ live ∷ []) items)))

  -- what was added for an event after others, of which the printer now stands for all; or why it
  -- isn't converted or printed, or memory ran out
  abbrev pub AddsEvent : (List TestEvent → Type 0) → List TestEvent → RecordedEvent → List ℕ
      → List ℕ → Result ⊤ ReadingError → Type 0
  AddsEvent stands past e old new (Ok done) =
      (live : TestEvent) × (added : List ℕ) × (converted e ≡ Ok live)
      × (prints past live ≡ Ok added) × (new ≡ old ++ added) × stands (past ++ live ∷ [])
  AddsEvent stands past e old new (Err x) =
      (x ≡ OutOfMemory) ⊎ ((converted e >>= prints past) ≡ Err x)

-- ---- the two printers

-- a replay prints the line of each event
abbrev pub line_prints : Prints
line_prints past e = Ok (line_text e)

-- the compact JSON of a report and LF, where there is one
abbrev pub report_line : Option JunitReport → List ℕ
report_line None = []
report_line (Some report) = compact_text (report_value report) ++ 10 ∷ []

abbrev pub report_name : List ℕ
report_name = codes "nextest-run"

-- reports are printed where a run ends
abbrev pub report_prints : NextestRunMode → Prints
report_prints mode past e =
    unless_refused (option_map Report (refusal_of mode plain_text e.kind))
    (report_line (report_after mode plain_text report_name past e.kind))
