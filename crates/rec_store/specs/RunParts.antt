-- The parts of a run: what manifest, log and store are read as, and what is written of them.
use Rattle.std.specs.List.{list_any, list_all, flat_map}
use Rattle.std.specs.Prelude.{◌≡◌, ℕ, Bool, not, ◌&&◌, List, [], ◌∷◌, ◌++◌, filter, length, Option}
use Rattle.std.specs.Prelude.{Some, None, IfSome, IsTrue, is_some, option_map, option_and_then}
use Rattle.std.specs.Str.{bytes_eq, is_utf8}
use Rattle.serde_json.specs.Data.{Data}
use Rattle.serde_json.specs.Written.{compact_text}
use Rattle.rec_container.specs.Container.{Entry, content_of, spell, IsContainer}
use Rattle.rec_events.specs.declared.recording.RecordOpts.{RecordOpts}
use Rattle.rec_events.specs.declared.recording.TestListSummary.{TestListSummary}
use Rattle.rec_forms.specs.Recording.{test_list_form, test_list_value}
use Rattle.rec_forms.specs.Recording.{record_opts_form, record_opts_value}
use Rattle.rec_forms.specs.Shape.{◌>>=◌, only}
use Rattle.rec_forms.specs.TextForm.{bytes_form}
use Rattle.rec_format.specs.declared.head.SessionHead.{SessionHead}
use Rattle.rec_format.specs.declared.rerun.RerunInfo.{RerunInfo}
use Rattle.rec_format.specs.declared.run.RecordedRunInfo.{RecordedRunInfo}
use Rattle.rec_format.specs.declared.scope.RecordedBuildScope.{RecordedBuildScope}
use Rattle.rec_format.specs.declared.sizes.RecordedSizes.{RecordedSizes}
use Rattle.rec_format.specs.declared.versions.PortableRecordingFormatVersion.{
  PortableRecordingFormatVersion,
}
use Rattle.rec_format.specs.RerunForms.{rerun_info_form}
use Rattle.rec_format.specs.RunForms.{manifest_form, manifest_value}
use Rattle.rec_format.specs.Runs.{info_of, manifest_of}
use Rattle.rec_format.specs.ScopeForms.{recorded_scope_form}
use Rattle.rec_format.specs.Versions.{portable_version, store_version}
use Rattle.rec_codec.specs.Event.{LiveEvent, RecordedEvent, log_events, log_text}
use Rattle.rec_codec.specs.Lines.{lines}
use Rattle.rec_store.specs.Bundle.{events_recorded, outputs_stored, run_info}
use Rattle.rec_store.specs.Ending.{sizes_of_log, sizes_of_store}
use Rattle.rec_store.specs.Entries.{build_scope_path, rerun_info_path, test_list_path}
use Rattle.rec_store.specs.Entries.{cargo_metadata_path, record_opts_path, bundle_entries}
use Rattle.rec_store.specs.Kept.{event_paths}
use Rattle.rec_store.specs.Store.{build_scope_entry, metadata_of, rerun_entry}

-- ---- what is read of a store

-- the item for which an entry's bytes stand
abbrev pub part : {T : Type 0} → (Data → Option T) → List Entry → List ℕ → Option T
part form es path = option_and_then (bytes_form form) (content_of es path)

-- the same of an entry that may be missing
abbrev pub maybe_part : {T : Type 0} → (Data → Option T) → Option (List ℕ) → Option (Option T)
maybe_part form None = Some None
maybe_part form (Some content) = option_map Some (bytes_form form content)

-- an entry that is a text
abbrev pub text_part : List Entry → List ℕ → Option (List ℕ)
text_part es path = option_and_then (λ s. only (is_utf8 s) s) (content_of es path)

abbrev pub metadata_paths : List (List ℕ)
metadata_paths =
    build_scope_path ∷ rerun_info_path ∷ test_list_path ∷ cargo_metadata_path ∷ record_opts_path
    ∷ []

abbrev pub is_metadata : List ℕ → Bool
is_metadata path = list_any (λ p. bytes_eq path p) metadata_paths

-- the other entries, where they are those that the events name
abbrev pub outputs_of : List RecordedEvent → List Entry → Option (List Entry)
outputs_of events es =
    let paths = flat_map event_paths events in
    let others = filter (λ e. not (is_metadata e.name)) es in
    only (list_all (λ p. is_some (content_of es p)) paths
    && list_all (λ e. list_any (λ p. bytes_eq e.name p) paths) others)
    others

-- ---- what is read of a bundle

-- the parts of a run; its events name the files of their outputs
pub record RunParts : Type 0 where
  pub format_version : PortableRecordingFormatVersion
  pub run : RecordedRunInfo
  pub cargo_metadata : List ℕ
  pub test_list : TestListSummary
  pub record_opts : RecordOpts
  pub build_scope : RecordedBuildScope
  pub rerun_info : Option RerunInfo
  pub events : List RecordedEvent
  pub outputs : List Entry

-- the parts that manifest, log and store are read as
abbrev pub parts_of : List ℕ → List ℕ → List Entry → Option RunParts
parts_of manifest log es = do
  m ← bytes_form manifest_form manifest
  events ← log_events (lines log)
  cargo_metadata ← text_part es cargo_metadata_path
  test_list ← part test_list_form es test_list_path
  record_opts ← part record_opts_form es record_opts_path
  build_scope ← part recorded_scope_form es build_scope_path
  rerun_info ← maybe_part rerun_info_form (content_of es rerun_info_path)
  outputs ← outputs_of events es
  Some (record {
    format_version = m.format_version;
    run = info_of m.run;
    cargo_metadata = cargo_metadata;
    test_list = test_list;
    record_opts = record_opts;
    build_scope = build_scope;
    rerun_info = rerun_info;
    events = events;
    outputs = outputs;
  })

-- the bytes are a bundle, and these are the parts of its run
pub record HasParts (bytes : List ℕ) (p : RunParts) : Type 0 where
  pub manifest : List ℕ
  pub log : List ℕ
  pub store : List ℕ
  pub entries : List Entry
  pub bundled : IsContainer bytes (bundle_entries manifest log store)
  pub stored : IsContainer store entries
  pub read : parts_of manifest log entries ≡ Some p

-- ---- what is written of parts

abbrev pub written_log : RunParts → List ℕ
written_log p = log_text p.events

-- the metadata goes first, in the order of a recording
abbrev pub written_store : RunParts → List Entry
written_store p =
    metadata_of p.build_scope p.rerun_info p.cargo_metadata p.test_list p.record_opts ++ p.outputs

abbrev pub written_sizes : RunParts → RecordedSizes
written_sizes p = record {
  log = sizes_of_log (length (written_log p)) (length p.events);
  store = sizes_of_store (written_store p);
}

-- the run information that is written: the version of the stores that are written,
-- and the sizes of this log and this store
abbrev pub settled_info : RunParts → RecordedRunInfo
settled_info p = record p.run { store_format_version = store_version; sizes = written_sizes p }

-- the parts that are read of what is written
abbrev pub settled : RunParts → RunParts
settled p = record p { format_version = portable_version; run = settled_info p }

abbrev pub written_manifest : RunParts → List ℕ
written_manifest p = compact_text (manifest_value (manifest_of (settled_info p)))

abbrev pub written_entries : RunParts → List Entry
written_entries p = bundle_entries (written_manifest p) (written_log p) (spell (written_store p))

-- the bundle that is written of parts
abbrev pub written : RunParts → List ℕ
written p = spell (written_entries p)

-- the texts that are written of parts are read as these
pub record AreBack (p : RunParts) : Type 0 where
  pub manifest : bytes_form manifest_form (written_manifest p) ≡ Some (manifest_of (settled_info p))
  pub log : log_events (lines (written_log p)) ≡ Some p.events
  pub build_scope : bytes_form recorded_scope_form (build_scope_entry p.build_scope).content
      ≡ Some p.build_scope
  pub test_list : bytes_form test_list_form (compact_text (test_list_value p.test_list))
      ≡ Some p.test_list
  pub record_opts : bytes_form record_opts_form (compact_text (record_opts_value p.record_opts))
      ≡ Some p.record_opts
  pub cargo_metadata : IsTrue (is_utf8 p.cargo_metadata)
  pub rerun_info : IfSome p.rerun_info
      (λ info. bytes_form rerun_info_form (rerun_entry info).content ≡ Some info)
  pub no_rerun : content_of p.outputs rerun_info_path ≡ None
  pub outputs : outputs_of p.events (written_store p) ≡ Some p.outputs

-- ---- the parts of a recording

-- outputs are numbered by their bytes, and cut at m bytes
module _ (number : List ℕ → ℕ) (m : ℕ) where
  abbrev pub recorded_parts : SessionHead → List LiveEvent → RunParts
  recorded_parts head events = record {
    format_version = portable_version;
    run = run_info number m head events;
    cargo_metadata = head.cargo_metadata;
    test_list = head.test_list;
    record_opts = head.record_opts;
    build_scope = head.build_scope;
    rerun_info = head.rerun_info;
    events = events_recorded number m events;
    outputs = outputs_stored number m events;
  }
