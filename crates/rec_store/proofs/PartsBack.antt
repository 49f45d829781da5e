-- The parts of a run that was read are read back from what is written of them.
use Rattle.std.proofs.Common.{◌≡◌, ℕ, ◌<◌, ◌^◌, List, [], ◌∷◌, ◌++◌, length, map, Bool, true}
use Rattle.std.proofs.Common.{false, ◌&&◌, Option, Some, None, is_some, option_map, unwrap_or}
use Rattle.std.proofs.Common.{IfSome, IsTrue, refl, ap, subst, ◌∙◌, arith, if◌then◌else◌}
use Rattle.std.proofs.lemmas.Bool.{and_parts, and_from}
use Rattle.std.specs.List.{filter, flat_map, list_all, list_any, AllByRecursion}
use Rattle.std.specs.Str.{bytes_eq, is_utf8}
use Rattle.serde_json.specs.Data.{Data}
use Rattle.rec_container.specs.Container.{Entry, content_of}
use Rattle.rec_events.specs.declared.output_names.OutputFileName.{OutputFileName}
use Rattle.rec_events.specs.declared.outputs.RecordingSpec.{RecordingSpec}
use Rattle.rec_events.specs.declared.outputs.ZipStoreOutput.TheVariants.{Empty, Full, Truncated}
use Rattle.rec_events.specs.declared.outputs.ZipStoreOutput.{ZipStoreOutput}
use Rattle.rec_events.specs.declared.outputs.ZipStoreOutputDescription.TheVariants as stored
use Rattle.rec_events.specs.declared.outputs.ZipStoreOutputDescription.{ZipStoreOutputDescription}
use Rattle.rec_events.specs.declared.recording.RecordOpts.{RecordOpts}
use Rattle.rec_events.specs.declared.recording.TestListSummary.{TestListSummary}
use Rattle.rec_events.specs.EventMaps.{event_with}
use Rattle.rec_forms.specs.GivesWellFormed.{GivesWellFormed}
use Rattle.rec_forms.specs.Outputs.{IsStoredOutputs}
use Rattle.rec_forms.specs.Recording.{test_list_form, IsTestList}
use Rattle.rec_forms.specs.RecordingLaws.{test_list_well_formed}
use Rattle.rec_forms.specs.Shape.{only}
use Rattle.rec_forms.specs.TextForm.{bytes_form, value_in}
use Rattle.rec_format.proofs.TextLaws.{manifest_text, record_opts_text, recorded_scope_text}
use Rattle.rec_format.proofs.TextLaws.{rerun_info_text, test_list_text}
use Rattle.rec_format.specs.declared.rerun.RerunInfo.{RerunInfo}
use Rattle.rec_format.specs.declared.run.RecordedRun.{RecordedRun}
use Rattle.rec_format.specs.declared.run.RecordedRunInfo.{RecordedRunInfo}
use Rattle.rec_format.specs.declared.scope.RecordedBuildScope.{RecordedBuildScope}
use Rattle.rec_format.specs.declared.sizes.RecordedSizes.{RecordedSizes}
use Rattle.rec_format.specs.RerunFormLaws.{rerun_info_well_formed}
use Rattle.rec_format.specs.RerunForms.{rerun_info_form, IsRerunInfo}
use Rattle.rec_format.specs.RunFormLaws.{manifest_well_formed}
use Rattle.rec_format.specs.RunForms.{manifest_form, IsManifest, IsRun}
use Rattle.rec_format.specs.Runs.{info_of, manifest_of}
use Rattle.rec_format.specs.ScopeFormLaws.{recorded_scope_well_formed}
use Rattle.rec_format.specs.ScopeForms.{recorded_scope_form, IsRecordedScope}
use Rattle.rec_format.specs.SizeForms.{AreSizes}
use Rattle.rec_format.specs.Status.{status_of}
use Rattle.rec_format.specs.StatusFormLaws.{of-format}
use Rattle.rec_format.specs.Versions.{store_version}
use Rattle.rec_codec.proofs.LogLaws.{log_reads_back}
use Rattle.rec_codec.proofs.ReadEventLaws.{recorded_event_well_formed}
use Rattle.rec_codec.specs.Event.{RecordedEvent, line_event, log_events}
use Rattle.rec_codec.specs.Event.{recorded_event_of, with_event}
use Rattle.rec_codec.specs.EventForms.{IsEvent}
use Rattle.rec_codec.specs.Lines.{is_blank, lines, text_of}
use Rattle.rec_store.proofs.EntrySpellings.{written_sizes_are}
use Rattle.rec_store.proofs.Held.{all_weaker}
use Rattle.rec_store.proofs.OtherEntries.{IsOther, all_others, found_after, is_other}
use Rattle.rec_store.proofs.OtherEntries.{no_rerun, others_after, path_of_output}
use Rattle.rec_store.proofs.PartOutputs.{IsOutputPath, event_paths_are, only_some}
use Rattle.rec_store.proofs.PartsOf.{AreReadFrom, the_same}
use Rattle.rec_store.proofs.PartsWithin.{then_some}
use Rattle.rec_store.specs.Entries.{build_scope_path, cargo_metadata_path}
use Rattle.rec_store.specs.Entries.{rerun_info_path, test_list_path}
use Rattle.rec_store.specs.Kept.{KeptEvent, KeptOutputs, bytes_under, combined, event_paths}
use Rattle.rec_store.specs.Kept.{event_resolved, full, outputs_resolved, resolved, split, truncated}
use Rattle.rec_store.specs.OutputPaths.{output_path}
use Rattle.rec_store.specs.RunParts.{AreBack, RunParts, is_metadata, maybe_part, outputs_of}
use Rattle.rec_store.specs.RunParts.{part, settled_info, text_part, written, written_sizes}
use Rattle.rec_store.specs.Store.{metadata_of, rerun_entry}

-- ---- what was read is well-formed

module _ {T : Type 0} (P : T → Type 0) (form : Data → Option T)
    (well : GivesWellFormed P form) where
  value_well_formed : (d : Data) (x : T) → form d ≡ Some x → P x
  value_well_formed d x e =
      let Q : Option T → Type 0 = λ o. IfSome o P in subst Q e (well.each d).is

  bytes_well_formed : (bytes : List ℕ) (x : T) → bytes_form form bytes ≡ Some x → P x
  bytes_well_formed bytes x h =
      let value = then_some (value_in bytes) form x h in value_well_formed value.0 x value.2

  part_well_formed : (es : List Entry) (path : List ℕ) (x : T) → part form es path ≡ Some x → P x
  part_well_formed es path x h =
      let found = then_some (content_of es path) (bytes_form form) x h in
      bytes_well_formed found.0 x found.2

  maybe_well_formed : (found : Option (List ℕ)) (o : Option T) → maybe_part form found ≡ Some o
      → IfSome o P
  maybe_well_formed None o h = subst (λ (x : Option T). IfSome x P) (the_same None o h) tt
  maybe_well_formed (Some content) o h = by (bytes_form form content) refl h
    where
      by : (read : Option T) → bytes_form form content ≡ read → option_map Some read ≡ Some o
          → IfSome o P
      by None is e = absurd cc
      by (Some x) is e =
          subst (λ (y : Option T). IfSome y P) (the_same (Some x) o e)
          (bytes_well_formed content x is)

text_well_formed : (es : List Entry) (path text : List ℕ) → text_part es path ≡ Some text
    → IsTrue (is_utf8 text)
text_well_formed es path text h =
    let found = then_some (content_of es path) (λ s. only (is_utf8 s) s) text h in
    let chosen = only_text (is_utf8 found.0) found.0 text found.2 in
    subst (λ (s : List ℕ). is_utf8 s ≡ true) chosen.1 chosen.0
  where
    only_text : (b : Bool) (s t : List ℕ) → only b s ≡ Some t → (b ≡ true) × (s ≡ t)
    only_text true s t e = (refl, the_same s t e)
    only_text false s t e = absurd cc

line_well_formed : (text : Option (List ℕ)) (e : RecordedEvent) → line_event text ≡ Some (Some e)
    → IsEvent {S = RecordingSpec} IsStoredOutputs e
line_well_formed None e h = absurd cc
line_well_formed (Some text) e h = by (is_blank text) (recorded_event_of text) refl h
  where
    by : (b : Bool) (o : Option RecordedEvent) → recorded_event_of text ≡ o
        → (if b then Some None else option_map Some o) ≡ Some (Some e)
        → IsEvent {S = RecordingSpec} IsStoredOutputs e
    by true o is h = absurd cc
    by false None is h = absurd cc
    by false (Some d) is h = recorded_event_well_formed text e (is ∙ the_same _ _ h)

events_well_formed : (ls : List (List ℕ)) (events : List RecordedEvent)
    → log_events ls ≡ Some events
    → AllByRecursion (IsEvent {S = RecordingSpec} IsStoredOutputs) events
events_well_formed [] events h =
    subst
    (λ (l : List RecordedEvent). AllByRecursion (IsEvent {S = RecordingSpec} IsStoredOutputs) l)
    (the_same [] events h) tt
events_well_formed (line ∷ ls) events h =
    by (line_event (text_of line)) (log_events ls) (line_well_formed (text_of line))
    (events_well_formed ls) h
  where
    by : (o : Option (Option RecordedEvent)) (rest : Option (List RecordedEvent))
        → ((e : RecordedEvent) → o ≡ Some (Some e) → IsEvent {S = RecordingSpec} IsStoredOutputs e)
        → ((es : List RecordedEvent) → rest ≡ Some es
        → AllByRecursion (IsEvent {S = RecordingSpec} IsStoredOutputs) es)
        → with_event o rest ≡ Some events
        → AllByRecursion (IsEvent {S = RecordingSpec} IsStoredOutputs) events
    by None rest is more h = absurd cc
    by (Some None) rest is more h = more events h
    by (Some (Some e)) None is more h = absurd cc
    by (Some (Some e)) (Some es) is more h =
        subst
        (λ (l : List RecordedEvent). AllByRecursion (IsEvent {S = RecordingSpec} IsStoredOutputs) l)
        (the_same (e ∷ es) events h) (is e refl, more es refl)

-- a manifest that was read is well-formed with another version of stores and other sizes
settled_manifest : (run : RecordedRun) (sizes : RecordedSizes) → IsRun run → AreSizes sizes
    → IsManifest
    (manifest_of (record (info_of run) { store_format_version = store_version; sizes = sizes }))
settled_manifest run sizes is sizes_are = record {
  format_version = record { major = omega arith; minor = omega arith };
  run = record {
    invocation = is.invocation;
    outcome = record {
      run_id = is.outcome.run_id;
      sizes = sizes_are;
      started_at = is.outcome.started_at;
      status = rw (of-format (status_of run.status)) is.outcome.status;
    };
    store_format_version = omega arith;
    store_format_minor_version = omega arith;
  };
}

if_rerun_info : (o : Option RerunInfo) → IfSome o IsRerunInfo
    → IfSome o (λ info. bytes_form rerun_info_form (rerun_entry info).content ≡ Some info)
if_rerun_info None is = tt
if_rerun_info (Some info) is = rerun_info_text info is

-- ---- outputs, after the metadata

all_same : (f g : List ℕ → Bool) (paths : List (List ℕ))
    → AllByRecursion (λ path. f path ≡ g path) paths → list_all f paths ≡ list_all g paths
all_same f g [] h = refl
all_same f g (path ∷ paths) h =
    ap (λ b. b && list_all f paths) h.0 ∙ ap (λ b. g path && b) (all_same f g paths h.1)

-- the others of a store are its outputs
pub outputs_chosen : (events : List RecordedEvent) (es outs : List Entry)
    → outputs_of events es ≡ Some outs → filter is_other es ≡ outs
outputs_chosen events es outs h = (only_some _ (filter is_other es) outs h).1

module _ (scope : RecordedBuildScope) (rerun : Option RerunInfo) (metadata : List ℕ)
    (list : TestListSummary) (opts : RecordOpts) (es : List Entry) where
  abbrev after : List Entry
  after = metadata_of scope rerun metadata list opts ++ filter is_other es

  under : (path : List ℕ) → IsOutputPath path → content_of after path ≡ content_of es path
  under path is =
      found_after scope rerun metadata list opts es path (ap is_metadata is.1 ∙ path_of_output is.0)

  -- they are read as such after metadata, wherever metadata stood before
  pub outputs_back : (events : List RecordedEvent) (outs : List Entry)
      → outputs_of events es ≡ Some outs
      → outputs_of events (metadata_of scope rerun metadata list opts ++ outs) ≡ Some outs
  outputs_back events outs h =
      let paths = flat_map event_paths events in
      let others = filter is_other es in
      let named : List Entry → Bool =
      λ l. list_all (λ (e : Entry). list_any (λ p. bytes_eq e.name p) paths) l in
      let chosen = only_some _ others outs h in
      let tests =
      and_parts (list_all (λ p. is_some (content_of es p)) paths) (named others) chosen.0 in
      let stay : AllByRecursion (λ p. is_some (content_of after p) ≡ is_some (content_of es p))
      paths =
      all_weaker IsOutputPath (λ p. is_some (content_of after p) ≡ is_some (content_of es p))
      (λ p is. ap is_some (under p is)) paths (event_paths_are events) in
      let found =
      all_same (λ p. is_some (content_of after p)) (λ p. is_some (content_of es p)) paths stay
      ∙ tests.0 in
      let read : outputs_of events after ≡ Some others =
      ap
      (λ (l : List Entry). only (list_all (λ p. is_some (content_of after p)) paths && named l) l)
      (others_after scope rerun metadata list opts others (all_others es))
      ∙ ap (λ b. only b others) (and_from (list_all (λ p. is_some (content_of after p)) paths)
      (named others) found tests.1) in
      subst (λ (l : List Entry). outputs_of events (metadata_of scope rerun metadata list opts ++ l)
      ≡ Some l)
      chosen.1 read

  bytes_stay : (f : OutputFileName) → bytes_under after f ≡ bytes_under es f
  bytes_stay f = ap (λ o. unwrap_or o []) (under (output_path f) (f, refl))

  output_stays : (o : ZipStoreOutput) → resolved after o ≡ resolved es o
  output_stays Empty = refl
  output_stays (Full f) = ap full (bytes_stay f)
  output_stays (Truncated f n) = ap (λ b. truncated b n) (bytes_stay f)

  captured_stays : (o : Option ZipStoreOutput)
      → option_map (resolved after) o ≡ option_map (resolved es) o
  captured_stays None = refl
  captured_stays (Some o) = ap Some (output_stays o)

  outputs_stay : (o : ZipStoreOutputDescription) → outputs_resolved after o ≡ outputs_resolved es o
  outputs_stay (stored.Split out err) =
      ap (λ o. split o (option_map (resolved after) err)) (captured_stays out)
      ∙ ap (λ o. split (option_map (resolved es) out) o) (captured_stays err)
  outputs_stay (stored.Combined both) = ap combined (output_stays both)

  event_stays : (e : RecordedEvent) → event_resolved after e ≡ event_resolved es e
  event_stays e =
      ap (λ (f : ZipStoreOutputDescription → KeptOutputs). let made : KeptEvent = event_with f e in
      made)
      (λ i o. outputs_stay o i)

  -- what names stand for stays
  pub resolved_stays : (events : List RecordedEvent)
      → map (event_resolved after) events ≡ map (event_resolved es) events
  resolved_stays events = λ i. map (λ e. event_stays e i) events

-- ---- all of it

pub are_back : (text log : List ℕ) (es : List Entry) (p : RunParts) → AreReadFrom text log es p
    → length (written p) < 2 ^ 64 → AreBack p
are_back text log es p from small =
    let manifest_is = bytes_well_formed IsManifest manifest_form manifest_well_formed text
    from.manifest from.is_manifest in
    let settled_is = subst (λ (info : RecordedRunInfo). IsManifest
    (manifest_of (record info { store_format_version = store_version; sizes = written_sizes p })))
    from.run
    (settled_manifest from.manifest.run (written_sizes p) manifest_is.run
    (written_sizes_are p small)) in
    record {
      manifest = manifest_text (manifest_of (settled_info p)) settled_is;
      log = log_reads_back p.events (events_well_formed (lines log) p.events from.events);
      build_scope =
          recorded_scope_text p.build_scope (part_well_formed IsRecordedScope recorded_scope_form
          recorded_scope_well_formed es build_scope_path p.build_scope from.build_scope);
      test_list =
          test_list_text p.test_list (part_well_formed IsTestList test_list_form
          test_list_well_formed es test_list_path p.test_list from.test_list);
      record_opts = record_opts_text p.record_opts;
      cargo_metadata = text_well_formed es cargo_metadata_path p.cargo_metadata from.cargo_metadata;
      rerun_info =
          if_rerun_info p.rerun_info (maybe_well_formed IsRerunInfo rerun_info_form
          rerun_info_well_formed (content_of es rerun_info_path) p.rerun_info from.rerun_info);
      no_rerun =
          no_rerun p.outputs (subst (λ (l : List Entry). AllByRecursion IsOther l)
          (outputs_chosen p.events es p.outputs from.outputs) (all_others es));
      outputs =
          outputs_back p.build_scope p.rerun_info p.cargo_metadata p.test_list p.record_opts es
          p.events p.outputs from.outputs;
    }
