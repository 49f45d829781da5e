-- What is written of a run's parts is read as the run.
use Rattle.std.proofs.Common.{◌≡◌, ℕ, ◌<◌, ◌^◌, List, [], ◌++◌, length, map, Option, Some}
use Rattle.std.proofs.Common.{None, IfSome, IsTrue, option_map, sym, ap, subst, ◌∙◌}
use Rattle.std.specs.List.{filter}
use Rattle.std.specs.Str.{is_utf8}
use Rattle.serde_json.specs.Written.{compact_text}
use Rattle.rec_container.proofs.Spelling.{IsContainer-spell}
use Rattle.rec_container.specs.Container.{Entry, AreFrom, content_of, spell}
use Rattle.rec_events.specs.declared.recording.RecordOpts.{RecordOpts}
use Rattle.rec_events.specs.declared.recording.TestListSummary.{TestListSummary}
use Rattle.rec_forms.specs.Recording.{test_list_form, test_list_value}
use Rattle.rec_forms.specs.Recording.{record_opts_form, record_opts_value}
use Rattle.rec_forms.specs.TextForm.{bytes_form}
use Rattle.rec_format.specs.declared.manifest.PortableManifest.{PortableManifest}
use Rattle.rec_format.specs.declared.rerun.RerunInfo.{RerunInfo}
use Rattle.rec_format.specs.declared.run.RecordedRunInfo.{RecordedRunInfo}
use Rattle.rec_format.specs.declared.scope.RecordedBuildScope.{RecordedBuildScope}
use Rattle.rec_format.specs.declared.status.RecordedRunStatus.{RecordedRunStatus}
use Rattle.rec_format.specs.RerunForms.{rerun_info_form}
use Rattle.rec_format.specs.RunForms.{manifest_form}
use Rattle.rec_format.specs.Runs.{info_of, manifest_of, run_of}
use Rattle.rec_format.specs.ScopeForms.{recorded_scope_form}
use Rattle.rec_format.specs.StatusFormLaws.{of-format}
use Rattle.rec_format.specs.Versions.{portable_version}
use Rattle.rec_codec.specs.Event.{RecordedEvent, log_events}
use Rattle.rec_codec.specs.Lines.{lines}
use Rattle.rec_store.proofs.EntrySpellings.{bundle_spelled, chosen_spelled}
use Rattle.rec_store.proofs.OneRecord.{one_record_spec}
use Rattle.rec_store.proofs.OtherEntries.{is_other}
use Rattle.rec_store.proofs.PartsBack.{are_back, outputs_chosen, resolved_stays}
use Rattle.rec_store.proofs.PartsOf.{parts_of_record, read_from}
use Rattle.rec_store.specs.Entries.{rerun_info_path}
use Rattle.rec_store.specs.Kept.{KeptEvent, event_resolved}
use Rattle.rec_store.specs.Reading.{IsReading, RunRecord, record_of_parts}
use Rattle.rec_store.specs.RunParts.{AreBack, HasParts, RunParts, outputs_of, parts_of}
use Rattle.rec_store.specs.RunParts.{settled, settled_info, written, written_entries}
use Rattle.rec_store.specs.RunParts.{written_log, written_manifest, written_store}
use Rattle.rec_store.specs.Store.{build_scope_entry, metadata_of, rerun_entry}

-- run information that went into a manifest comes out of it
info_again : (info : RecordedRunInfo) → info_of (run_of info) ≡ info
info_again info = ap (λ (s : RecordedRunStatus). record info { status = s }) (of-format info.status)

abbrev parts_from : PortableManifest → RecordedBuildScope → Option RerunInfo → List ℕ
    → TestListSummary → RecordOpts → List RecordedEvent → List Entry → RunParts
parts_from m scope rerun metadata list opts events outs = record {
  format_version = m.format_version;
  run = info_of m.run;
  cargo_metadata = metadata;
  test_list = list;
  record_opts = opts;
  build_scope = scope;
  rerun_info = rerun;
  events = events;
  outputs = outs;
}

module _ (manifest log : List ℕ) (m : PortableManifest) (events : List RecordedEvent)
    (scope : RecordedBuildScope) (metadata : List ℕ) (list : TestListSummary) (opts : RecordOpts)
    (outs : List Entry) (is : bytes_form manifest_form manifest ≡ Some m)
    (logged : log_events (lines log) ≡ Some events)
    (built : bytes_form recorded_scope_form (build_scope_entry scope).content ≡ Some scope)
    (listed : bytes_form test_list_form (compact_text (test_list_value list)) ≡ Some list)
    (opted : bytes_form record_opts_form (compact_text (record_opts_value opts)) ≡ Some opts)
    (utf8 : IsTrue (is_utf8 metadata)) where
  parts_read : (rerun : Option RerunInfo)
      → IfSome rerun (λ info. bytes_form rerun_info_form (rerun_entry info).content ≡ Some info)
      → content_of outs rerun_info_path ≡ None
      → outputs_of events (metadata_of scope rerun metadata list opts ++ outs) ≡ Some outs
      → parts_of manifest log (metadata_of scope rerun metadata list opts ++ outs)
      ≡ Some (parts_from m scope rerun metadata list opts events outs)
  parts_read None again without found = rw (is, logged, utf8, listed, opted, built, without, found)
  parts_read (Some info) again without found =
      rw (is, logged, utf8, listed, opted, built, again, found)

pub written_parts : (p : RunParts) → AreBack p
    → parts_of (written_manifest p) (written_log p) (written_store p) ≡ Some (settled p)
written_parts p back =
    parts_read (written_manifest p) (written_log p) (manifest_of (settled_info p))
    p.events p.build_scope p.cargo_metadata p.test_list p.record_opts p.outputs
    back.manifest back.log back.build_scope back.test_list back.record_opts back.cargo_metadata
    p.rerun_info back.rerun_info back.no_rerun back.outputs
    ∙ ap (λ (info : RecordedRunInfo). Some (record (settled p) { run = info }))
    (info_again (settled_info p))

-- ---- bundles

-- a bundle of these parts is read as their record
pub record_of_bundle : (bytes : List ℕ) (p : RunParts) → (has : HasParts bytes p)
    → IsReading bytes (record_of_parts has.entries p)
record_of_bundle bytes p has = record {
  manifest = has.manifest;
  log = has.log;
  store = has.store;
  entries = has.entries;
  bundled = has.bundled;
  stored = has.stored;
  read = ap (option_map (record_of_parts has.entries)) has.read;
}

-- and what is read has parts
pub parts_of_bundle : (bytes : List ℕ) (r : RunRecord) → IsReading bytes r
    → (p : RunParts) × (es : List Entry) × HasParts bytes p × (record_of_parts es p ≡ r)
parts_of_bundle bytes r reads =
    let made = parts_of_record reads.manifest reads.log reads.entries r reads.read in (
      made.0,
      reads.entries,
      record {
        manifest = reads.manifest;
        log = reads.log;
        store = reads.store;
        entries = reads.entries;
        bundled = reads.bundled;
        stored = reads.stored;
        read = made.1;
      },
      made.2,
    )

module _ (p : RunParts) (back : AreBack p) (stored : AreFrom [] (written_store p))
    (small : length (written p) < 2 ^ 64) where
  pub written_has : HasParts (written p) (settled p)
  written_has = record {
    manifest = written_manifest p;
    log = written_log p;
    store = spell (written_store p);
    entries = written_store p;
    bundled = IsContainer-spell (written_entries p) (bundle_spelled p small);
    stored = IsContainer-spell (written_store p) stored;
    read = written_parts p back;
  }

  pub written_reads : IsReading (written p) (record_of_parts (written_store p) (settled p))
  unfolding written_has
  written_reads = record_of_bundle (written p) (settled p) written_has

-- ---- of a run that was read

chosen : (text log : List ℕ) (es : List Entry) (p : RunParts) → parts_of text log es ≡ Some p
    → filter is_other es ≡ p.outputs
chosen text log es p h = outputs_chosen p.events es p.outputs (read_from text log es p h).outputs

-- what names stand for stays
pub events_stay : (text log : List ℕ) (es : List Entry) (p : RunParts)
    → parts_of text log es ≡ Some p
    → map (event_resolved (written_store p)) p.events ≡ map (event_resolved es) p.events
events_stay text log es p h =
    ap (λ (l : List Entry). map (event_resolved (metadata_of p.build_scope p.rerun_info
    p.cargo_metadata p.test_list p.record_opts ++ l)) p.events) (sym (chosen text log es p h))
    ∙ resolved_stays p.build_scope p.rerun_info p.cargo_metadata p.test_list p.record_opts es
    p.events

module _ (bytes : List ℕ) (p : RunParts) (has : HasParts bytes p)
    (small : length (written p) < 2 ^ 64) where
  pub read_back : AreBack p
  read_back =
      are_back has.manifest has.log has.entries p
      (read_from has.manifest has.log has.entries p has.read) small

  again : AreFrom [] (written_store p)
  again =
      chosen_spelled p small has.entries has.stored.entries
      (chosen has.manifest has.log has.entries p has.read)

  pub read_has : HasParts (written p) (settled p)
  read_has = written_has p read_back again small

  -- so it is read as it was, but for the versions and the sizes
  pub read_reads : (r : RunRecord) → IsReading bytes r
      → IsReading (written p) (record r { format_version = portable_version; run = settled_info p })
  read_reads r reads =
      let same : record_of_parts has.entries p ≡ r = one_record_spec bytes
      (record_of_parts has.entries p) r (record_of_bundle bytes p has) reads in
      subst (λ (x : RunRecord).
      IsReading (written p) (record x { format_version = portable_version; run = settled_info p }))
      same
      (subst (λ (l : List KeptEvent). IsReading (written p) (record (record_of_parts has.entries
      p) { format_version = portable_version; run = settled_info p; events = l }))
      (events_stay has.manifest has.log has.entries p has.read)
      (written_reads p read_back again small))
