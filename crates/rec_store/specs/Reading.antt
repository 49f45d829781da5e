-- What a bundle's bytes are read as.
use Rattle.std.specs.Prelude.{◌≡◌, ℕ, List, Option, Some, option_map, map}
use Rattle.rec_container.specs.Container.{Entry, IsContainer}
use Rattle.rec_events.specs.declared.recording.RecordOpts.{RecordOpts}
use Rattle.rec_events.specs.declared.recording.TestListSummary.{TestListSummary}
use Rattle.rec_format.specs.declared.head.SessionHead.{SessionHead}
use Rattle.rec_format.specs.declared.rerun.RerunInfo.{RerunInfo}
use Rattle.rec_format.specs.declared.run.RecordedRunInfo.{RecordedRunInfo}
use Rattle.rec_format.specs.declared.scope.RecordedBuildScope.{RecordedBuildScope}
use Rattle.rec_format.specs.declared.versions.PortableRecordingFormatVersion.{
  PortableRecordingFormatVersion,
}
use Rattle.rec_format.specs.Versions.{portable_version}
use Rattle.rec_codec.specs.Event.{LiveEvent}
use Rattle.rec_store.specs.Bundle.{run_info, outputs_stored}
use Rattle.rec_store.specs.Entries.{bundle_entries}
use Rattle.rec_store.specs.Kept.{KeptEvent, event_kept, event_resolved}
use Rattle.rec_store.specs.RunParts.{RunParts, parts_of}

-- what was recorded of a run
pub record RunRecord : Type 0 where
  pub format_version : PortableRecordingFormatVersion
  pub run : RecordedRunInfo
  pub cargo_metadata : List ℕ
  pub test_list : TestListSummary
  pub record_opts : RecordOpts
  pub build_scope : RecordedBuildScope
  pub rerun_info : Option RerunInfo
  pub events : List KeptEvent
  pub outputs : List Entry

-- the record of parts: each name in their events stands for what the store has under it
abbrev pub record_of_parts : List Entry → RunParts → RunRecord
record_of_parts es p = record {
  format_version = p.format_version;
  run = p.run;
  cargo_metadata = p.cargo_metadata;
  test_list = p.test_list;
  record_opts = p.record_opts;
  build_scope = p.build_scope;
  rerun_info = p.rerun_info;
  events = map (event_resolved es) p.events;
  outputs = p.outputs;
}

-- what manifest, log and store are read as
abbrev pub record_of : List ℕ → List ℕ → List Entry → Option RunRecord
record_of manifest log es = option_map (record_of_parts es) (parts_of manifest log es)

-- the bytes are a bundle, and this is what it is read as
pub record IsReading (bytes : List ℕ) (r : RunRecord) : Type 0 where
  pub manifest : List ℕ
  pub log : List ℕ
  pub store : List ℕ
  pub entries : List Entry
  pub bundled : IsContainer bytes (bundle_entries manifest log store)
  pub stored : IsContainer store entries
  pub read : record_of manifest log entries ≡ Some r

-- what is recorded of a run: its head, and its events with each output cut at m bytes
abbrev pub recorded : (List ℕ → ℕ) → ℕ → SessionHead → List LiveEvent → RunRecord
recorded number m head events = record {
  format_version = portable_version;
  run = run_info number m head events;
  cargo_metadata = head.cargo_metadata;
  test_list = head.test_list;
  record_opts = head.record_opts;
  build_scope = head.build_scope;
  rerun_info = head.rerun_info;
  events = map (event_kept m) events;
  outputs = outputs_stored number m events;
}
