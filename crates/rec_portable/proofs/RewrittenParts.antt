-- The parts of a run that are judged and written anew.
use Rattle.std.proofs.Common.{◌≡◌, ◌⊎◌, inl, inr, ℕ, List, Option}
use Rattle.std.proofs.Common.{Result, Ok, Err, refl, sym, ap, subst, ◌∙◌}
use Rattle.std.specs.List.{flat_map}
use Rattle.rec_container.specs.Container.{Entry}
use Rattle.rec_container.specs.Reading.{◌>>=◌}
use Rattle.rec_events.specs.declared.recording.RecordOpts.{RecordOpts}
use Rattle.rec_events.specs.declared.recording.TestListSummary.{TestListSummary}
use Rattle.rec_forms.specs.Recording.{test_list_form, record_opts_form}
use Rattle.rec_format.specs.declared.manifest.PortableManifest.{PortableManifest}
use Rattle.rec_format.specs.declared.rerun.RerunInfo.{RerunInfo}
use Rattle.rec_format.specs.declared.scope.RecordedBuildScope.{RecordedBuildScope}
use Rattle.rec_format.specs.Runs.{info_of}
use Rattle.rec_format.specs.ScopeForms.{recorded_scope_form}
use Rattle.rec_codec.specs.Event.{RecordedEvent}
use Rattle.rec_store.proofs.PartRefusals.{refuses_next}
use Rattle.rec_store.specs.declared.read_error.RecordReadError.TheVariants as part
use Rattle.rec_store.specs.declared.read_error.RecordReadError.{RecordReadError}
use Rattle.rec_store.specs.Entries.{build_scope_path, cargo_metadata_path}
use Rattle.rec_store.specs.Entries.{record_opts_path, test_list_path}
use Rattle.rec_store.specs.JudgedParts.{log_judged, outputs_judged, parts_judged}
use Rattle.rec_store.specs.Kept.{event_paths}
use Rattle.rec_store.specs.Parts.{metadata_part, rerun_info_part, utf8_part}
use Rattle.rec_store.specs.Readers.{Refuses}
use Rattle.rec_store.specs.RunParts.{RunParts}
use Rattle.rec_portable.specs.declared.upgrade_error.UpgradeError.TheVariants.{OutOfMemory}
use Rattle.rec_portable.specs.declared.upgrade_error.UpgradeError.{UpgradeError}
use Rattle.rec_portable.specs.Rewriting.{MetadataParts, metadata_judged, other_entries}
use Rattle.rec_portable.specs.Upgrading.{or_read_error, read_error}

-- five steps and then the rest
split : {Z : Type 0} (a : Result RecordedBuildScope RecordReadError)
    (b : Result (Option RerunInfo) RecordReadError) (c : Result TestListSummary RecordReadError)
    (d : Result (List ℕ) RecordReadError) (e : Result RecordOpts RecordReadError)
    (k : MetadataParts → Result Z RecordReadError)
    → (a >>= λ s. b >>= λ r. c >>= λ l. d >>= λ m. e >>= λ o. k (record {
      build_scope = s;
      rerun_info = r;
      test_list = l;
      cargo_metadata = m;
      record_opts = o;
    }))
    ≡ ((a >>= λ s. b >>= λ r. c >>= λ l. d >>= λ m. e >>= λ o. Ok (record {
      build_scope = s;
      rerun_info = r;
      test_list = l;
      cargo_metadata = m;
      record_opts = o;
    })) >>= k)
split (Err x) b c d e k = refl
split (Ok s) (Err x) c d e k = refl
split (Ok s) (Ok r) (Err x) d e k = refl
split (Ok s) (Ok r) (Ok l) (Err x) e k = refl
split (Ok s) (Ok r) (Ok l) (Ok m) (Err x) k = refl
split (Ok s) (Ok r) (Ok l) (Ok m) (Ok o) k = refl

module _ (limit : ℕ) (m : PortableManifest) (log : List ℕ) (es : List Entry) where
  -- the parts of this metadata and these events
  abbrev pub parts_of_both : MetadataParts → List RecordedEvent → RunParts
  parts_of_both x events = record {
    format_version = m.format_version;
    run = info_of m.run;
    cargo_metadata = x.cargo_metadata;
    test_list = x.test_list;
    record_opts = x.record_opts;
    build_scope = x.build_scope;
    rerun_info = x.rerun_info;
    events = events;
    outputs = other_entries es;
  }

  outputs_after : MetadataParts → List RecordedEvent → Result RunParts RecordReadError
  outputs_after x events =
      outputs_judged limit es (flat_map event_paths events) >>= (λ _. Ok (parts_of_both x events))

  log_after : MetadataParts → Result RunParts RecordReadError
  unfolding outputs_after
  log_after x = log_judged log >>= outputs_after x

  parts_split : parts_judged limit m log es ≡ (metadata_judged limit es >>= log_after)
  unfolding log_after outputs_after
  parts_split =
      split (metadata_part recorded_scope_form build_scope_path es limit) (rerun_info_part es limit)
      (metadata_part test_list_form test_list_path es limit)
      (utf8_part cargo_metadata_path es limit)
      (metadata_part record_opts_form record_opts_path es limit)
      (λ x. log_judged log >>= (λ events. outputs_judged limit es (flat_map event_paths events)
      >>= (λ _. Ok (parts_of_both x events))))

  pub metadata_refused : (e : RecordReadError) → Refuses (metadata_judged limit es) e
      → Refuses (parts_judged limit m log es) e
  metadata_refused e h =
      subst (λ r. Refuses r e) (sym parts_split)
      (refuses_next (metadata_judged limit es) log_after e h)

  module _ (x : MetadataParts) (read : metadata_judged limit es ≡ Ok x) where
    after_metadata : parts_judged limit m log es ≡ (log_judged log >>= outputs_after x)
    unfolding log_after
    after_metadata = parts_split ∙ ap (λ r. r >>= log_after) read

    pub log_refused : (e : RecordReadError) → Refuses (log_judged log) e
        → Refuses (parts_judged limit m log es) e
    log_refused e h =
        subst (λ r. Refuses r e) (sym after_metadata)
        (refuses_next (log_judged log) (outputs_after x) e h)

    module _ (events : List RecordedEvent) (logged : log_judged log ≡ Ok events) where
      after_log : parts_judged limit m log es
          ≡ (outputs_judged limit es (flat_map event_paths events)
          >>= (λ _. Ok (parts_of_both x events)))
      unfolding outputs_after
      after_log = after_metadata ∙ ap (λ r. r >>= outputs_after x) logged

      pub outputs_refused : (paths : List (List ℕ)) → paths ≡ flat_map event_paths events
          → (e : RecordReadError) → Refuses (outputs_judged limit es paths) e
          → Refuses (parts_judged limit m log es) e
      outputs_refused paths are e h =
          subst (λ r. Refuses r e) (sym after_log)
          (refuses_next (outputs_judged limit es (flat_map event_paths events))
          (λ _. Ok (parts_of_both x events)) e
          (subst (λ ps. Refuses (outputs_judged limit es ps) e) are h))

      pub parts_made : (paths : List (List ℕ)) → paths ≡ flat_map event_paths events
          → (u : Unit {0}) → outputs_judged limit es paths ≡ Ok u
          → parts_judged limit m log es ≡ Ok (parts_of_both x events)
      parts_made paths are u h =
          after_log
          ∙ ap (λ ps. outputs_judged limit es ps >>= (λ _. Ok (parts_of_both x events))) (sym are)
          ∙ ap (λ r. r >>= (λ _. Ok (parts_of_both x events))) h

-- why a part isn't read is why the bundle isn't upgraded
pub refused_read : {Y : Type 0} (p : Result Y RecordReadError) (e : RecordReadError) → Refuses p e
    → (read_error e ≡ OutOfMemory) ⊎ (or_read_error p ≡ Err (read_error e))
refused_read p (part.RunNotFound n) h = inr (ap or_read_error h)
refused_read p (part.OpenArchive n) h = absurd h
refused_read p (part.ParseArchive n f) h = absurd h
refused_read p (part.FileNotFound n) h = inr (ap or_read_error h)
refused_read p (part.FileTooLarge n s l) h = inr (ap or_read_error h)
refused_read p (part.NotUtf8 n) h = inr (ap or_read_error h)
refused_read p (part.DeserializeMetadata n) h = inr (ap or_read_error h)
refused_read p (part.UnknownOutputType n) h = inr (ap or_read_error h)
refused_read p (part.ExtractFile n) h = inr (ap or_read_error h)
refused_read p (part.OpenRunLog n) h = inr (ap or_read_error h)
refused_read p (part.DiskFault n) h = absurd h
refused_read p (part.ReadRunLog n) h = inr (ap or_read_error h)
refused_read p (part.ParseEvent n) h = inr (ap or_read_error h)
refused_read p part.OutOfMemory h = inl refl
