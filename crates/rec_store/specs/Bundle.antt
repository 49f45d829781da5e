-- The bundle of a run.
use Rattle.std.specs.List.{flat_map}
use Rattle.std.specs.Prelude.{ℕ, List, [], ◌++◌, length, map}
use Rattle.serde_json.specs.Written.{compact_text}
use Rattle.rec_container.specs.Container.{Entry, spell}
use Rattle.rec_format.specs.declared.head.SessionHead.{SessionHead}
use Rattle.rec_format.specs.declared.run.RecordedRunInfo.{RecordedRunInfo}
use Rattle.rec_format.specs.declared.sizes.RecordedSizes.{RecordedSizes}
use Rattle.rec_format.specs.RunForms.{manifest_value}
use Rattle.rec_format.specs.Runs.{recorded_info, manifest_of}
use Rattle.rec_codec.specs.Event.{LiveEvent, RecordedEvent, log_text}
use Rattle.rec_store.specs.Clashes.{with_entries}
use Rattle.rec_store.specs.Ending.{sizes_of_log, sizes_of_store}
use Rattle.rec_store.specs.Entries.{bundle_entries}
use Rattle.rec_store.specs.EventOutputs.{event_entries, event_recorded}
use Rattle.rec_store.specs.Store.{store_entries}

-- outputs are numbered by their bytes, and cut at m bytes
module _ (number : List ℕ → ℕ) (m : ℕ) where
  -- the events as they are recorded
  abbrev pub events_recorded : List LiveEvent → List RecordedEvent
  events_recorded events = map (event_recorded number m) events

  -- their log
  abbrev pub run_log : List LiveEvent → List ℕ
  run_log events = log_text (events_recorded events)

  -- the outputs of all events, in order
  abbrev pub run_outputs : List LiveEvent → List Entry
  run_outputs events = flat_map (event_entries number m) events

  -- those that are stored: the first of each path
  abbrev pub outputs_stored : List LiveEvent → List Entry
  outputs_stored events = with_entries [] (run_outputs events)

  -- the entries of a run's store: the metadata, then outputs
  abbrev pub run_store : SessionHead → List LiveEvent → List Entry
  run_store head events = store_entries head ++ outputs_stored events

  -- the sizes of a run
  abbrev pub run_sizes : SessionHead → List LiveEvent → RecordedSizes
  run_sizes head events = record {
    log = sizes_of_log (length (run_log events)) (length events);
    store = sizes_of_store (run_store head events);
  }

  -- the run information that a bundle holds
  abbrev pub run_info : SessionHead → List LiveEvent → RecordedRunInfo
  run_info head events = recorded_info head (run_sizes head events)

  unfoldable pub manifest_text : SessionHead → List LiveEvent → List ℕ
  manifest_text head events = compact_text (manifest_value (manifest_of (run_info head events)))

  -- the entries of a run's bundle
  abbrev pub run_entries : SessionHead → List LiveEvent → List Entry
  run_entries head events =
      bundle_entries (manifest_text head events) (run_log events) (spell (run_store head events))

  -- the bundle of a run
  abbrev pub run_bundle : SessionHead → List LiveEvent → List ℕ
  run_bundle head events = spell (run_entries head events)
