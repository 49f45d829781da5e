-- The bundle that is made of what is kept of a run, and what it is read as.
use Rattle.std.specs.Prelude.{◌≡◌, ℕ, ◌<◌, ◌^◌, List, None, length, map}
use Rattle.rec_container.specs.Container.{Entry, spell}
use Rattle.rec_container.specs.WholePrefixes.{IsWholePrefix}
use Rattle.rec_format.specs.declared.run.RecordedRunInfo.{RecordedRunInfo}
use Rattle.rec_format.specs.RunForms.{IsManifest}
use Rattle.rec_format.specs.Runs.{manifest_of}
use Rattle.rec_codec.specs.Event.{LiveEvent}
use Rattle.rec_store.specs.Entries.{bundle_entries}
use Rattle.rec_store.specs.Kept.{event_kept, event_resolved}
use Rattle.rec_store.specs.Reading.{IsReading, RunRecord}
use Rattle.rec_salvage.specs.declared.salvaging.Salvaged.{Salvaged}
use Rattle.rec_salvage.specs.Refusals.{prefix_refusal}
use Rattle.rec_salvage.specs.Salvaged.{manifest_text, named_entries, salvaged_bundle}
use Rattle.rec_salvage.specs.Salvaged.{salvaged_events, salvaged_run}

-- the bundle of this run, log and store, which is short enough for its lengths;
-- its manifest is one that reads back
pub record IsBundle (run : RecordedRunInfo) (log store : List ℕ) (bundle : List ℕ) : Type 0 where
  pub spelled : bundle ≡ spell (bundle_entries (manifest_text run) log store)
  pub short : length bundle < 2 ^ 64
  pub manifest : IsManifest (manifest_of run)

-- the bundle of what is kept, by the entries of the store's whole prefix;
-- its manifest is one that reads back
pub record IsMade (run : RecordedRunInfo) (log : List ℕ) (es : List Entry)
    (s : Salvaged) : Type 0 where
  pub bundle : s.bundle ≡ salvaged_bundle run es log
  pub short : length s.bundle < 2 ^ 64
  pub manifest : IsManifest (manifest_of (salvaged_run run es log))
  pub events : s.events ≡ length (salvaged_events es log)
  pub outputs : s.outputs ≡ length (named_entries es (salvaged_events es log))

-- the bundle of what is kept of a run: it is read, its run is the run with the sizes of what is
-- kept, and its events are the salvaged ones with what the prefix has of their outputs
pub record Salvages (run : RecordedRunInfo) (log store : List ℕ) (s : Salvaged) : Type 0 where
  pub entries : List Entry
  pub prefix : IsWholePrefix store entries
  pub sound : prefix_refusal entries ≡ None
  pub bundle : s.bundle ≡ salvaged_bundle run entries log
  pub events : s.events ≡ length (salvaged_events entries log)
  pub outputs : s.outputs ≡ length (named_entries entries (salvaged_events entries log))
  pub recorded : RunRecord
  pub read : IsReading s.bundle recorded
  pub run_is : recorded.run ≡ salvaged_run run entries log
  pub events_are : recorded.events ≡ map (event_resolved entries) (salvaged_events entries log)
  pub outputs_are : recorded.outputs ≡ named_entries entries (salvaged_events entries log)

-- the bundle is read, and its events are these with each output cut at m bytes
pub record Restores (m : ℕ) (events : List LiveEvent) (s : Salvaged) : Type 0 where
  pub recorded : RunRecord
  pub read : IsReading s.bundle recorded
  pub events_are : recorded.events ≡ map (event_kept m) events
