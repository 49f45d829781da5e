-- The events of a log, read one after the other.
use Rattle.std.proofs.Common.{◌≡◌, ◌⊎◌, inl, inr, List, [], ◌∷◌, ◌++◌, map, None}
use Rattle.std.proofs.Common.{Some, Result, Ok, Err, refl, ap, ◌∙◌, option_map}
use Rattle.rec_codec.specs.declared.line_events.LineError.TheVariants as faults
use Rattle.rec_codec.specs.declared.line_events.LineError.{LineError}
use Rattle.rec_codec.specs.Event.{RecordedEvent}
use Rattle.rec_codec.specs.LineReading.{before_fault, first_fault, log_items}
use Rattle.rec_codec.specs.Lines.{NumberedLine}
use Rattle.rec_errors.specs.declared.reading_error.ReadingError.TheVariants.{OutOfMemory}
use Rattle.rec_errors.specs.declared.reading_error.ReadingError.{ReadingError}
use Rattle.rec_errors.specs.ReadingErrors.{line_error}
use Rattle.rec_reading.specs.Converting.{unless_refused}
use Rattle.rec_reading.specs.LogEvents.{events_of}

abbrev Item : Type 0
Item = Result RecordedEvent LineError

-- what items give
abbrev read : List Item → Result (List RecordedEvent) ReadingError
read items = unless_refused (option_map line_error (first_fault items)) (before_fault items)

no-fault : (events : List RecordedEvent) → first_fault {E = LineError} (map Ok events) ≡ None
no-fault [] = refl
no-fault (e ∷ events) = no-fault events

all-before : (events : List RecordedEvent) → before_fault {E = LineError} (map Ok events) ≡ events
all-before [] = refl
all-before (e ∷ events) = ap (λ l. e ∷ l) (all-before events)

fault-after : (events : List RecordedEvent) (fault : LineError) (more : List Item)
    → first_fault (map Ok events ++ Err fault ∷ more) ≡ Some fault
fault-after [] fault more = refl
fault-after (e ∷ events) fault more = fault-after events fault more

-- events and no fault
pub all-read : (ls : List NumberedLine) (events : List RecordedEvent) → log_items ls ≡ map Ok events
    → events_of ls ≡ Ok events
all-read ls events h =
    ap read h
    ∙ ap
    (λ o. unless_refused (option_map line_error o) (before_fault {E = LineError} (map Ok events)))
    (no-fault events)
    ∙ ap Ok (all-before events)

-- events, and then a fault, but for want of memory
pub fault-read : (ls : List NumberedLine) (events : List RecordedEvent) (fault : LineError)
    → ((fault ≡ faults.OutOfMemory → ⊥)
    → (more : List Item) × (log_items ls ≡ map Ok events ++ Err fault ∷ more))
    → (line_error fault ≡ OutOfMemory) ⊎ (events_of ls ≡ Err (line_error fault))
fault-read ls events fault given = go fault given
  where
    refused : (f : LineError) → (more : List Item) × (log_items ls ≡ map Ok events ++ Err f ∷ more)
        → events_of ls ≡ Err (line_error f)
    refused f found =
        ap read found.1
        ∙ ap (λ o.
        unless_refused (option_map line_error o) (before_fault (map Ok events ++ Err f ∷ found.0)))
        (fault-after events f found.0)

    go : (f : LineError)
        → ((f ≡ faults.OutOfMemory → ⊥)
        → (more : List Item) × (log_items ls ≡ map Ok events ++ Err f ∷ more))
        → (line_error f ≡ OutOfMemory) ⊎ (events_of ls ≡ Err (line_error f))
    go (faults.ReadRunLog n) h = inr (refused (faults.ReadRunLog n) (h (λ e. let k = e in cc)))
    go (faults.ParseEvent n) h = inr (refused (faults.ParseEvent n) (h (λ e. let k = e in cc)))
    go faults.OutOfMemory h = inl refl
