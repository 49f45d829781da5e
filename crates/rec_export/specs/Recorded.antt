-- A run that is recorded into memory.
use Rattle.std.specs.Bool.{⊤}
use Rattle.std.specs.List.{AllByRecursion}
use Rattle.std.specs.Option.{option_to_list}
use Rattle.std.specs.Prelude.{◌≡◌, ℕ, List, [], ◌∷◌, ◌++◌, length, false}
use Rattle.std.specs.Prelude.{None, Some, option_map, Result, Ok, Err, ◌⊎◌}
use Rattle.rec_container.specs.Container.{AreFrom, Entry}
use Rattle.rec_container.specs.Memory.{GrowingSinkState}
use Rattle.rec_format.specs.declared.head.SessionHead.{SessionHead}
use Rattle.rec_format.specs.declared.sizes.RecordedSizes.{RecordedSizes}
use Rattle.rec_codec.specs.Event.{LiveEvent, IsLogged}
use Rattle.rec_codec.specs.Lines.{NumberedLine}
use Rattle.rec_store.specs.Bundle.{events_recorded, outputs_stored, run_log}
use Rattle.rec_store.specs.Bundle.{run_outputs, run_sizes, run_store}
use Rattle.rec_store.specs.Clashes.{clash}
use Rattle.rec_store.specs.EventOutputs.{event_entries}
use Rattle.rec_store.specs.Recording.{Recording, has_failed}
use Rattle.rec_errors.specs.declared.export_error.RecordExportError.TheVariants.{
  NameCollision,
  OutOfMemory,
}
use Rattle.rec_errors.specs.declared.export_error.RecordExportError.{RecordExportError}
use Rattle.rec_export.specs.Session.{event_at, events_of, line_refusal, lines_refusal}

-- outputs are numbered by their bytes, and cut at m bytes
module _ (number : List ℕ → ℕ) (m : ℕ) where
  -- what is known of events that were recorded: each line is read as its event,
  -- and no output clashes
  pub record AreRecorded (events : List LiveEvent) : Type 0 where
    pub logged : AllByRecursion IsLogged (events_recorded number m events)
    pub distinct : clash [] (run_outputs number m events) ≡ None

  -- the store's entries, the log and the sizes are those of a run with this head and these events
  pub record IsRunOf (head : SessionHead) (events : List LiveEvent) (store : List Entry)
      (log : List ℕ) (sizes : RecordedSizes) : Type 0 where
    pub stored : store ≡ run_store number m head events
    pub sound : AreFrom [] (run_store number m head events)
    pub log_written : log ≡ run_log number m events
    pub sized : sizes ≡ run_sizes number m head events
    pub recorded : AreRecorded events

module _ {S N : Type 0} (number : N → List ℕ → ℕ) (namer : N) (m : ℕ) (head : SessionHead) where
  -- the recorder has written the head's metadata and these events
  pub record HasRecorded (events : List LiveEvent)
      (r : Recording S GrowingSinkState N) : Type 0 where
    pub namer_kept : r.namer ≡ namer
    pub limit_kept : r.max_output ≡ m
    pub sound : has_failed r ≡ false
    pub entries_stored : r.store.entries ≡ run_store (number namer) m head events
    pub log_taken : r.log.bytes ≡ run_log (number namer) m events
    pub log_counted : r.log_bytes ≡ length (run_log (number namer) m events)
    pub events_counted : r.events ≡ length events
    pub recorded : AreRecorded (number namer) m events

  -- an event was recorded after these; or one of its outputs clashes with theirs, or memory ran out
  abbrev pub RecordsEvent : List LiveEvent → LiveEvent → Recording S GrowingSinkState N
      → Result ⊤ RecordExportError → Type 0
  RecordsEvent events event new (Ok u) =
      (clash (outputs_stored (number namer) m events) (event_entries (number namer) m event) ≡ None)
      × HasRecorded (events ++ event ∷ []) new
  RecordsEvent events event new (Err e) =
      (e ≡ OutOfMemory) ⊎ (option_map NameCollision
      (clash (outputs_stored (number namer) m events) (event_entries (number namer) m event))
      ≡ Some e)

  -- the event of a line, if it has one, was recorded after these; or the line is refused,
  -- or memory ran out
  abbrev pub RecordsLine : List LiveEvent → NumberedLine → Recording S GrowingSinkState N
      → Result ⊤ RecordExportError → Type 0
  RecordsLine events line new (Ok u) =
      (line_refusal (number namer) m (outputs_stored (number namer) m events) line ≡ None)
      × HasRecorded (events ++ option_to_list (event_at line)) new
  RecordsLine events line new (Err e) =
      (e ≡ OutOfMemory)
      ⊎ (line_refusal (number namer) m (outputs_stored (number namer) m events) line ≡ Some e)

  -- the same of several lines
  abbrev pub RecordsLines : List LiveEvent → List NumberedLine → Recording S GrowingSinkState N
      → Result ⊤ RecordExportError → Type 0
  RecordsLines events lines new (Ok u) =
      (lines_refusal (number namer) m (outputs_stored (number namer) m events) lines ≡ None)
      × HasRecorded (events ++ events_of lines) new
  RecordsLines events lines new (Err e) =
      (e ≡ OutOfMemory)
      ⊎ (lines_refusal (number namer) m (outputs_stored (number namer) m events) lines ≡ Some e)
