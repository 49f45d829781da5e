-- What recording an event does to a recorder.
use Rattle.std.specs.Io.KnownBytes.{Appends}
use Rattle.std.specs.Prelude.{◌≡◌, ℕ, ◌+◌, ◌^◌, ◌≤◌, List, length, true}
use Rattle.std.specs.Prelude.{false, Option, Result, Ok, Err, ⊤, ◌⊎◌}
use Rattle.rec_container.specs.Causes.{Rose}
use Rattle.rec_container.specs.Taking.{TookPart}
use Rattle.rec_codec.specs.Event.{LiveEvent, RecordedEvent, event_line, IsLogged}
use Rattle.rec_codec.specs.EventForms.{kind_loaded}
use Rattle.rec_codec.specs.Live.{is_loaded}
use Rattle.rec_store.specs.declared.error.RunStoreError.TheVariants.{
  Failed,
  NotLoadedOutput,
  CountOutOfRange,
  RunLogWrite,
  OutOfMemory,
}
use Rattle.rec_store.specs.declared.error.RunStoreError.{RunStoreError}
use Rattle.rec_store.specs.EventOutputs.{event_entries, event_recorded}
use Rattle.rec_store.specs.Recording.{Recording, has_failed, AddsEach}
use Rattle.rec_store.specs.Stopping.{Stops}

module _ {L : Type 0} (taken : L → Option (List ℕ)) (faults : L → ℕ) {S N : Type 0} where
  -- a line was appended to the log, whose count of faults has not fallen
  pub record AppendsLine (old new : Recording S L N) (line : List ℕ) : Type 0 where
    pub taken_line : Appends (taken old.log) (taken new.log) line
    pub later : faults old.log ≤ faults new.log
    pub kept : new ≡ record old {
      log = new.log;
      log_bytes = old.log_bytes + length line;
      events = old.events + 1;
    }

  -- why a line was not appended, and what stands then; want of memory is free before
  abbrev pub Unappended : Recording S L N → Recording S L N → List ℕ → RunStoreError → Type 0
  Unappended old new line CountOutOfRange = (new ≡ old) × (2 ^ 64 ≤ old.log_bytes + length line)
  Unappended old new line RunLogWrite =
      Rose (faults old.log) (faults new.log) × TookPart (taken old.log) (taken new.log) line
      × (new ≡ record old { log = new.log; log_failed = true }) × (faults old.log ≤ faults new.log)
  Unappended old new line e = ⊥

  -- a line was appended, or was not
  abbrev pub AppendsAs : Recording S L N → Recording S L N → List ℕ → Result ⊤ RunStoreError
      → Type 0
  AppendsAs old new line (Ok done) = AppendsLine old new line
  AppendsAs old new line (Err e) = Unappended old new line e

  -- the line of an event was appended, which is read as the event; or it was not, for want of
  -- memory or as the line was refused
  abbrev pub AppendsEvent : Recording S L N → Recording S L N → RecordedEvent
      → Result ⊤ RunStoreError → Type 0
  AppendsEvent old new event (Ok done) = AppendsLine old new (event_line event) × IsLogged event
  AppendsEvent old new event (Err e) =
      Unappended old new (event_line event) e ⊎ ((e ≡ OutOfMemory) × (new ≡ old))

module _ {S L N : Type 0} (taken : S → Option (List ℕ)) (faults : S → ℕ)
    (log_taken : L → Option (List ℕ)) (log_faults : L → ℕ) (number : N → List ℕ → ℕ) where
  -- the outputs of an event that is loaded were stored, and then its line was appended
  abbrev pub Logs : Recording S L N → Recording S L N → LiveEvent → Type 0
  Logs old new event =
      (has_failed old ≡ false) × (kind_loaded is_loaded event.kind ≡ true)
      × AddsEach taken faults old.store new.store
      (event_entries (number old.namer) old.max_output event)
      × AppendsLine log_taken log_faults (record old { store = new.store }) new
      (event_line (event_recorded (number old.namer) old.max_output event))

  -- why an event was not recorded, and what stands then: a sink failed before; an output isn't
  -- loaded; an output was refused; the line was
  abbrev pub Unlogged : Recording S L N → Recording S L N → LiveEvent → RunStoreError → Type 0
  Unlogged old new event e =
      ((e ≡ Failed) × (has_failed old ≡ true) × (new ≡ old))
      ⊎ ((e ≡ NotLoadedOutput) × (has_failed old ≡ false)
      × (kind_loaded is_loaded event.kind ≡ false) × (new ≡ old))
      ⊎ ((has_failed old ≡ false) × (kind_loaded is_loaded event.kind ≡ true)
      × (new ≡ record old { store = new.store })
      × Stops taken faults old.store new.store
      (event_entries (number old.namer) old.max_output event) e)
      ⊎ ((has_failed old ≡ false) × (kind_loaded is_loaded event.kind ≡ true)
      × AddsEach taken faults old.store new.store
      (event_entries (number old.namer) old.max_output event)
      × Unappended log_taken log_faults (record old { store = new.store }) new
      (event_line (event_recorded (number old.namer) old.max_output event)) e)

  -- what comes of an event that is loaded where no sink has failed: its outputs and its line,
  -- or why these end
  abbrev pub LogsLoaded : Recording S L N → Recording S L N → LiveEvent → Result ⊤ RunStoreError
      → Type 0
  LogsLoaded old new event (Ok done) =
      AddsEach taken faults old.store new.store
      (event_entries (number old.namer) old.max_output event)
      × AppendsLine log_taken log_faults (record old { store = new.store }) new
      (event_line (event_recorded (number old.namer) old.max_output event))
      × IsLogged (event_recorded (number old.namer) old.max_output event)
  LogsLoaded old new event (Err e) =
      ((new ≡ record old { store = new.store }) × Stops taken faults old.store new.store
      (event_entries (number old.namer) old.max_output event) e)
      ⊎ (AddsEach taken faults old.store new.store
      (event_entries (number old.namer) old.max_output event)
      × Unappended log_taken log_faults (record old { store = new.store }) new
      (event_line (event_recorded (number old.namer) old.max_output event)) e)
