-- A bundle with a reading is accepted, where nothing of it is too long.
use Rattle.std.proofs.Common.{◌≡◌, ◌≤◌, ℕ, List, [], ◌∷◌, Bool, true, false, not, ◌&&◌}
use Rattle.std.proofs.Common.{filter, length, Option, Some, None, Result, Ok, Err, is_some}
use Rattle.std.proofs.Common.{option_map, refl, sym, ap, subst, ◌∙◌, if◌then◌else◌}
use Rattle.std.proofs.lemmas.Bool.{and_parts, le-ltb}
use Rattle.std.specs.List.{AllByRecursion, flat_map, list_all}
use Rattle.std.specs.Str.{bytes_eq}
use Rattle.rec_container.specs.Container.{Entry, content_of}
use Rattle.rec_container.specs.Reading.{◌>>=◌}
use Rattle.rec_forms.specs.Shape.{only}
use Rattle.rec_forms.specs.TextForm.{bytes_form}
use Rattle.rec_format.specs.declared.manifest.PortableManifest.{PortableManifest}
use Rattle.rec_format.specs.declared.run.RecordedRunInfo.{RecordedRunInfo}
use Rattle.rec_format.specs.declared.versions.PortableRecordingFormatVersion.{
  PortableRecordingFormatVersion,
}
use Rattle.rec_format.specs.RunForms.{manifest_form}
use Rattle.rec_format.specs.Runs.{info_of}
use Rattle.rec_codec.proofs.LineReadings.{log_events-whole}
use Rattle.rec_codec.specs.Event.{RecordedEvent, log_events}
use Rattle.rec_codec.specs.LineReading.{events_before_fault}
use Rattle.rec_codec.specs.Lines.{lines, numbered}
use Rattle.rec_store.proofs.PartLaws.{parts_of_reading}
use Rattle.rec_store.proofs.PartsOf.{read_from, the_same}
use Rattle.rec_store.specs.declared.read_error.RecordReadError.TheVariants as part
use Rattle.rec_store.specs.declared.read_error.RecordReadError.{RecordReadError}
use Rattle.rec_store.specs.Entries.{bundle_entries, log_name, manifest_name}
use Rattle.rec_store.specs.JudgedParts.{events_or_fault, first_unnamed, is_named}
use Rattle.rec_store.specs.JudgedParts.{log_judged, outputs_judged, parts_judged}
use Rattle.rec_store.specs.Kept.{event_paths}
use Rattle.rec_store.specs.Parts.{AreWithin, found_within}
use Rattle.rec_store.specs.Reading.{RunRecord, record_of_parts}
use Rattle.rec_store.specs.RunParts.{RunParts, is_metadata, parts_of}
use Rattle.rec_portable.proofs.Components.{within_limit}
use Rattle.rec_portable.proofs.OneUpgrade.{accepted_not_refused}
use Rattle.rec_portable.specs.declared.upgrade_error.UpgradeError.{UpgradeError}
use Rattle.rec_portable.specs.Judging.{content_judged, judged, manifest_read, versions_checked}
use Rattle.rec_portable.specs.OuterEntries.{log_part}
use Rattle.rec_portable.specs.Upgrades.{IsUpgradable}
use Rattle.rec_portable.specs.Upgrading.{IsAccepted, IsOpened, IsRefused, none_foreign}
use Rattle.rec_portable.specs.Upgrading.{or_read_error, run_judged, unless, written_refusal}

-- ---- the parts of a run

pub log_accepted : (log : List ℕ) (events : List RecordedEvent)
    → log_events (lines log) ≡ Some events → log_judged log ≡ Ok events
log_accepted log events h =
    let whole = (log_events-whole 1 (lines log) events).0 h in
    ap (events_or_fault (events_before_fault (numbered 1 (lines log)))) whole.1 ∙ ap Ok whole.0

-- the content under a path has what all contents have
found_content : (P : List ℕ → Type 0) (es : List Entry) (path content : List ℕ)
    → AllByRecursion (λ (e : Entry). P e.content) es → content_of es path ≡ Some content → P content
found_content P [] path content all h = absurd cc
found_content P (e ∷ es) path content all h =
    by (bytes_eq path e.name) h (found_content P es path content all.1)
  where
    by : (b : Bool) → (if b then Some e.content else content_of es path) ≡ Some content
        → (content_of es path ≡ Some content → P content) → P content
    by true h rest = subst P (the_same e.content content h) all.0
    by false h rest = rest h

only_some : (b : Bool) (es fs : List Entry) → only b es ≡ Some fs → (b ≡ true) × (es ≡ fs)
only_some true es fs h = (refl, cc)
only_some false es fs h = absurd cc

module _ (limit : ℕ) (es : List Entry) (within : AreWithin es limit) where
  short_found : (path content : List ℕ) → content_of es path ≡ Some content
      → found_within path limit (Some content) ≡ Ok content
  short_found path content h =
      ap (λ b. if b then Err (part.FileTooLarge path (length content) limit) else Ok content)
      (le-ltb limit (length content)
      (found_content (λ c. length c ≤ limit) es path content within h))

  outputs_accepted : (paths : List (List ℕ))
      → list_all (λ p. is_some (content_of es p)) paths ≡ true
      → outputs_judged limit es paths ≡ Ok tt
  outputs_accepted [] h = refl
  outputs_accepted (path ∷ paths) h = by (content_of es path) refl h (outputs_accepted paths)
    where
      next : List ℕ → Result (Unit {0}) RecordReadError
      next content = outputs_judged limit es paths

      by : (o : Option (List ℕ)) → content_of es path ≡ o
          → (is_some o && list_all (λ p. is_some (content_of es p)) paths) ≡ true
          → (list_all (λ p. is_some (content_of es p)) paths ≡ true
          → outputs_judged limit es paths ≡ Ok tt)
          → (found_within path limit o >>= next) ≡ Ok tt
      by None is h more = absurd cc
      by (Some content) is h more = ap (λ r. r >>= next) (short_found path content is) ∙ more h

  unnamed_none : (paths : List (List ℕ)) (fs : List Entry)
      → list_all (λ e. is_named paths e) (filter (λ e. not (is_metadata e.name)) fs) ≡ true
      → first_unnamed paths fs ≡ None
  unnamed_none paths [] h = refl
  unnamed_none paths (e ∷ fs) h =
      by (is_metadata e.name) (is_named paths e) refl refl h (unnamed_none paths fs)
    where
      by : (m n : Bool) → is_metadata e.name ≡ m → is_named paths e ≡ n
          → list_all (λ d. is_named paths d) (filter (λ d. not (is_metadata d.name)) (e ∷ fs))
          ≡ true
          → (list_all (λ d. is_named paths d) (filter (λ d. not (is_metadata d.name)) fs) ≡ true
          → first_unnamed paths fs ≡ None)
          → first_unnamed paths (e ∷ fs) ≡ None
      by true n p q h more = rw (p) (more (rw (p) at h))
      by false true p q h more = rw (p, q) (more (rw (p, q) at h))
      by false false p q h more = absurd (let k = (rw (p, q) at h) in cc)

  module _ (text log : List ℕ) (m : PortableManifest) (p : RunParts)
      (is : bytes_form manifest_form text ≡ Some m) (h : parts_of text log es ≡ Some p) where
    abbrev others : List Entry
    others = filter (λ e. not (is_metadata e.name)) es

    pub unnamed_accepted : first_unnamed (flat_map event_paths p.events) es ≡ None
    unnamed_accepted =
        let paths = flat_map event_paths p.events in
        let outputs = only_some _ others p.outputs (read_from text log es p h).outputs in
        unnamed_none paths es (and_parts (list_all (λ q. is_some (content_of es q)) paths)
        (list_all (λ e. is_named paths e) others) outputs.0).1

    pub parts_accepted : parts_judged limit m log es ≡ Ok p
    parts_accepted =
        let f = read_from text log es p h in
        let paths = flat_map event_paths p.events in
        let outputs = only_some _ others p.outputs f.outputs in
        let held = (and_parts (list_all (λ q. is_some (content_of es q)) paths)
        (list_all (λ e. is_named paths e) others) outputs.0).0 in
        let same : m ≡ f.manifest = the_same m f.manifest (sym is ∙ f.is_manifest) in
        let version : m.format_version ≡ p.format_version =
        ap (λ (x : PortableManifest). x.format_version) same ∙ f.format_version in
        let run : info_of m.run ≡ p.run =
        ap (λ (x : PortableManifest). info_of x.run) same ∙ f.run in
        let made : record p {
          format_version = m.format_version;
          run = info_of m.run;
          outputs = others;
        } ≡ p =
        ap (λ (v : PortableRecordingFormatVersion).
        record p { format_version = v; run = info_of m.run; outputs = others })
        version
        ∙ ap (λ (r : RecordedRunInfo). record p { run = r; outputs = others }) run
        ∙ ap (λ (os : List Entry). record p { outputs = os }) outputs.1 in
        let a = parts_of_reading text log es limit (record_of_parts es p)
        (ap (option_map (record_of_parts es)) h) within in
        rw (
          a.build_scope,
          a.rerun_info,
          a.test_list,
          a.cargo_metadata,
          a.record_opts,
          log_accepted log p.events f.events,
          outputs_accepted paths held,
        ) (ap Ok made)

-- ---- a bundle

module _ (bytes : List ℕ) (limit : ℕ) (run : RunRecord) (u : IsUpgradable bytes limit run) where
  abbrev outer : List Entry
  outer = bundle_entries u.reads.manifest u.reads.log u.reads.store

  judges : judged limit outer ≡ Ok u.manifest
  judges =
      ap (λ found. found >>= content_judged)
      (within_limit limit manifest_name u.reads.manifest u.short_manifest)
      ∙ ap (λ read. manifest_read read >>= versions_checked) u.is_manifest ∙ u.versions

  logs : log_part limit outer ≡ Ok u.reads.log
  logs = within_limit limit log_name u.reads.log u.short_log

  abbrev opened : IsOpened bytes limit
  opened = record {
    outer = outer;
    spelled = u.reads.bundled;
    manifest = u.manifest;
    is_judged = judges;
    log = u.reads.log;
    log_read = logs;
    store = u.reads.store;
    store_found = refl;
    entries = u.reads.entries;
    stored = u.reads.stored;
  }

  run_accepted : run_judged limit u.manifest u.reads.log u.reads.entries ≡ Ok u.parts
  run_accepted =
      let es = u.reads.entries in
      let parts = parts_accepted limit es u.within u.reads.manifest u.reads.log u.manifest u.parts
      u.is_manifest u.are_parts in
      let unnamed = unnamed_accepted limit es u.within u.reads.manifest u.reads.log u.manifest
      u.parts u.is_manifest u.are_parts in
      ap (λ r. or_read_error r
      >>= (λ (p : RunParts). none_foreign (first_unnamed (flat_map event_paths p.events) es)
      >>= (λ _. unless (written_refusal limit p) p)))
      parts
      ∙ ap (λ o. none_foreign o >>= (λ _. unless (written_refusal limit u.parts) u.parts)) unnamed
      ∙ ap (λ o. unless o u.parts) u.fits

  pub upgradable_accepted : IsAccepted bytes limit u.parts
  upgradable_accepted = (opened, run_accepted)

  pub upgradable_not_refused : (e : UpgradeError) → IsRefused bytes limit e → ⊥
  upgradable_not_refused e refused =
      accepted_not_refused bytes limit u.parts e upgradable_accepted refused
