-- What is made of a run that is written anew.
use Rattle.std.specs.BTreeSet.{BTreeSet, contains_text}
use Rattle.std.specs.declared.alloc.Global.{Global}
use Rattle.std.specs.List.{flat_map, list_any}
use Rattle.std.specs.Prelude.{◌≡◌, ◌<◌, ◌^◌, suc, ℕ, not, List, [], ◌∷◌, ◌++◌, filter, length, map}
use Rattle.std.specs.Prelude.{Option, Some, None, Result, Ok, Err, ◌⊎◌, String, string_bytes, Vec}
use Rattle.std.specs.Str.{bytes_eq}
use Rattle.serde_json.specs.Written.{compact_text}
use Rattle.rec_container.specs.Container.{Entry, spell}
use Rattle.rec_container.specs.Reading.{◌>>=◌}
use Rattle.rec_container.specs.Writing.{entry_named}
use Rattle.rec_events.specs.declared.recording.RecordOpts.{RecordOpts}
use Rattle.rec_events.specs.declared.recording.TestListSummary.{TestListSummary}
use Rattle.rec_forms.specs.Recording.{test_list_form, record_opts_form}
use Rattle.rec_format.specs.declared.manifest.PortableManifest.{PortableManifest}
use Rattle.rec_format.specs.declared.rerun.RerunInfo.{RerunInfo}
use Rattle.rec_format.specs.declared.scope.RecordedBuildScope.{RecordedBuildScope}
use Rattle.rec_format.specs.declared.sizes.RecordedSizes.{RecordedSizes}
use Rattle.rec_format.specs.RerunForms.{rerun_info_value}
use Rattle.rec_format.specs.RunForms.{manifest_value}
use Rattle.rec_format.specs.Runs.{info_of, manifest_of}
use Rattle.rec_format.specs.ScopeForms.{recorded_scope_form}
use Rattle.rec_format.specs.Versions.{store_version}
use Rattle.rec_codec.specs.Event.{RecordedEvent, event_line, log_text}
use Rattle.rec_store.specs.declared.read_error.RecordReadError.{RecordReadError}
use Rattle.rec_store.specs.Entries.{build_scope_path, cargo_metadata_path, record_opts_path}
use Rattle.rec_store.specs.Entries.{rerun_info_path, test_list_path, three_entries}
use Rattle.rec_store.specs.Kept.{event_paths}
use Rattle.rec_store.specs.OutputPaths.{output_path}
use Rattle.rec_store.specs.Parts.{metadata_part, rerun_info_part, utf8_part}
use Rattle.rec_store.specs.Readers.{Refuses}
use Rattle.rec_store.specs.RunParts.{RunParts, is_metadata, written, written_log}
use Rattle.rec_store.specs.RunParts.{written_manifest, written_store}
use Rattle.rec_store.specs.Store.{metadata_of}
use Rattle.rec_portable.specs.declared.upgrade_error.UpgradeError.TheVariants.{OutOfMemory}
use Rattle.rec_portable.specs.declared.upgrade_error.UpgradeError.{UpgradeError}
use Rattle.rec_portable.specs.declared.upgrading.log.RewrittenLog.{RewrittenLog}
use Rattle.rec_portable.specs.declared.upgrading.metadata.MetadataTexts.{MetadataTexts}
use Rattle.rec_portable.specs.declared.upgrading.parts.RewrittenRun.{RewrittenRun}
use Rattle.rec_portable.specs.declared.upgrading.Rewritten.{Rewritten}
use Rattle.rec_portable.specs.declared.upgrading.RunTexts.{RunTexts}
use Rattle.rec_portable.specs.Upgrades.{AreCountsOf}

-- ---- answers

-- a call answers what stands for what is read, or why that isn't read
abbrev pub Rewrites : {X Y : Type 0} → (Y → X → Type 0) → Result Y RecordReadError
    → Result X RecordReadError → Type 0
Rewrites {Y = Y} Is part (Ok x) = (y : Y) × (part ≡ Ok y) × Is y x
Rewrites {Y = Y} Is part (Err e) = Refuses part e

-- a call passes exactly where nothing is refused, or memory runs out
abbrev pub Judges : {T : Type 0} → Result (Unit {0}) UpgradeError → Result T UpgradeError → Type 0
Judges expected (Ok x) = expected ≡ Ok tt
Judges expected (Err e) = (e ≡ OutOfMemory) ⊎ (expected ≡ Err e)

-- ---- the metadata

pub record MetadataParts : Type 0 where
  pub build_scope : RecordedBuildScope
  pub rerun_info : Option RerunInfo
  pub test_list : TestListSummary
  pub cargo_metadata : List ℕ
  pub record_opts : RecordOpts

-- the metadata of a store, or the first part that isn't read
abbrev pub metadata_judged : ℕ → List Entry → Result MetadataParts RecordReadError
metadata_judged limit es = do
  build_scope ← metadata_part recorded_scope_form build_scope_path es limit
  rerun_info ← rerun_info_part es limit
  test_list ← metadata_part test_list_form test_list_path es limit
  cargo_metadata ← utf8_part cargo_metadata_path es limit
  record_opts ← metadata_part record_opts_form record_opts_path es limit
  Ok (record {
    build_scope = build_scope;
    rerun_info = rerun_info;
    test_list = test_list;
    cargo_metadata = cargo_metadata;
    record_opts = record_opts;
  })

-- as it is written
abbrev pub metadata_entries : MetadataParts → List Entry
metadata_entries m =
    metadata_of m.build_scope m.rerun_info m.cargo_metadata m.test_list m.record_opts

abbrev pub rerun_text_entries : Option (Vec ℕ Global) → List Entry
rerun_text_entries None = []
rerun_text_entries (Some text) = entry_named rerun_info_path text.items ∷ []

-- the text of a rerun's information, where there is one
abbrev pub IsRerunText : Option RerunInfo → Option (Vec ℕ Global) → Type 0
IsRerunText None None = Unit {0}
IsRerunText None (Some text) = ⊥
IsRerunText (Some info) None = ⊥
IsRerunText (Some info) (Some text) = text.items ≡ compact_text (rerun_info_value info)

-- the entries of these texts
abbrev pub text_entries : MetadataTexts → List Entry
text_entries t =
    entry_named build_scope_path t.build_scope.items
    ∷ (rerun_text_entries t.rerun_info
    ++ three_entries t.test_list.items (string_bytes t.cargo_metadata) t.record_opts.items)

-- ---- the log and the outputs

-- the lines of these events, their number, and the outputs that they name
pub record IsRewrittenLog (events : List RecordedEvent) (log : RewrittenLog) : Type 0 where
  pub text : log.text.items ≡ log_text events
  pub count : log.events ≡ length events
  pub names : map output_path log.names.items ≡ flat_map event_paths events

-- one event more
pub record AddsEvent (e : RecordedEvent) (old new : RewrittenLog) : Type 0 where
  pub text : new.text.items ≡ old.text.items ++ event_line e
  pub count : new.events ≡ suc old.events
  pub names : map output_path new.names.items ≡ map output_path old.names.items ++ event_paths e

-- the set has these paths
abbrev pub ArePaths : List (List ℕ) → BTreeSet (String Global) → Type 0
ArePaths paths set =
    (path : List ℕ) → contains_text set path ≡ list_any (λ p. bytes_eq path p) paths

-- the entries that are no metadata
abbrev pub other_entries : List Entry → List Entry
other_entries es = filter (λ e. not (is_metadata e.name)) es

-- ---- the run

-- the texts of a run with these parts, the paths of its outputs, and its outputs in the store
pub record IsRewrittenRun (m : PortableManifest) (es : List Entry) (p : RunParts)
    (run : RewrittenRun) : Type 0 where
  pub run_is : p.run ≡ info_of m.run
  pub metadata : text_entries run.metadata
      ≡ metadata_of p.build_scope p.rerun_info p.cargo_metadata p.test_list p.record_opts
  pub log : run.log.items ≡ written_log p
  pub events : run.events ≡ length p.events
  pub paths : ArePaths (flat_map event_paths p.events) run.paths
  pub outputs : p.outputs ≡ other_entries es

-- the parts of a run with this manifest, whose log and store are written so
pub record IsMadeOf (p : RunParts) (m : PortableManifest) (texts : RunTexts)
    (store : List Entry) : Type 0 where
  pub run : p.run ≡ info_of m.run
  pub log : texts.log.items ≡ written_log p
  pub events : texts.events ≡ length p.events
  pub outputs : texts.outputs ≡ length p.outputs
  pub store_is : store ≡ written_store p

-- the text of a manifest, with the version of the stores that are written and these sizes
abbrev pub settled_text : PortableManifest → RecordedSizes → List ℕ
settled_text m sizes =
    compact_text (manifest_value
    (manifest_of (record (info_of m.run) { store_format_version = store_version; sizes = sizes })))

-- the contents of the bundle that is written of parts
pub record IsRewritten (p : RunParts) (r : Rewritten) : Type 0 where
  pub manifest : r.manifest.items ≡ written_manifest p
  pub log : r.log.items ≡ written_log p
  pub store : r.store.items ≡ spell (written_store p)
  pub short : length (written p) < 2 ^ 64
  pub counts : AreCountsOf p r.upgraded
