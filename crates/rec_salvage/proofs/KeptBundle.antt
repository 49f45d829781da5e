-- What the bundle of what is kept is read as.
use Rattle.std.proofs.Common.{◌≡◌, ℕ, zero, suc, ◌<◌, ◌≤◌, ◌^◌, take, Vec, Global, Bool, true}
use Rattle.std.proofs.Common.{nat_lt, ltb-true, List, [], ◌∷◌, length, map, Option, Some, None}
use Rattle.std.proofs.Common.{option_map, refl, sym, ap, subst, ◌∙◌, arith, length-append}
use Rattle.std.proofs.lemmas.Bool.{and_parts}
use Rattle.std.proofs.lemmas.List.{length-take-le}
use Rattle.std.proofs.lemmas.Str.{IsUtf8-from_ascii}
use Rattle.std.specs.List.{flat_map, list_all}
use Rattle.std.specs.Str.{IsAscii}
use Rattle.rec_container.proofs.Lengths.{length-entry, length-spell}
use Rattle.rec_container.proofs.Spelling.{IsContainer-spell}
use Rattle.rec_container.specs.Container.{Entry, AreFrom, IsName, entry, spell}
use Rattle.rec_container.specs.WholePrefixes.{IsWholePrefix}
use Rattle.rec_container.specs.Writing.{entry_named}
use Rattle.rec_forms.specs.Recording.{test_list_form, record_opts_form}
use Rattle.rec_forms.specs.Shape.{◌>>=◌}
use Rattle.rec_forms.specs.TextForm.{bytes_form}
use Rattle.rec_format.proofs.TextLaws.{manifest_text as manifest_back}
use Rattle.rec_format.specs.declared.run.RecordedRunInfo.{RecordedRunInfo}
use Rattle.rec_format.specs.declared.sizes.ComponentSizes.{ComponentSizes}
use Rattle.rec_format.specs.declared.sizes.RecordedSizes.{RecordedSizes}
use Rattle.rec_format.specs.declared.status.RecordedRunStatus.{RecordedRunStatus}
use Rattle.rec_format.specs.RerunForms.{rerun_info_form}
use Rattle.rec_format.specs.RunForms.{IsManifest, manifest_form}
use Rattle.rec_format.specs.Runs.{info_of, manifest_of, run_of}
use Rattle.rec_format.specs.ScopeForms.{recorded_scope_form}
use Rattle.rec_format.specs.StatusFormLaws.{of-format}
use Rattle.rec_format.specs.Versions.{portable_version}
use Rattle.rec_codec.specs.Event.{RecordedEvent, log_events}
use Rattle.rec_codec.specs.Lines.{lines}
use Rattle.rec_store.specs.Ending.{sizes_of_log}
use Rattle.rec_store.specs.Entries.{build_scope_path, bundle_entries, cargo_metadata_path}
use Rattle.rec_store.specs.Entries.{log_name, manifest_name, record_opts_path}
use Rattle.rec_store.specs.Entries.{rerun_info_path, store_name, test_list_path}
use Rattle.rec_store.specs.Kept.{event_resolved}
use Rattle.rec_store.specs.Reading.{IsReading, RunRecord, record_of_parts}
use Rattle.rec_store.specs.RunParts.{RunParts, maybe_part, outputs_of, part, parts_of, text_part}
use Rattle.rec_salvage.proofs.Judged.{AreParts, parts_read, parts_same}
use Rattle.rec_salvage.proofs.KeptEntries.{kept_from, metadata_stays, outputs_read, resolved_stay}
use Rattle.rec_salvage.proofs.SoundLines.{sound_events, sound_outputs}
use Rattle.rec_salvage.proofs.WholeLog.{lines_spelled, sound_pass, sound_pieces}
use Rattle.rec_salvage.specs.declared.gathering.Gathered.{Gathered}
use Rattle.rec_salvage.specs.declared.salvaging.Salvaged.{Salvaged}
use Rattle.rec_salvage.specs.declared.store.KeptStore.{KeptStore}
use Rattle.rec_salvage.specs.Gathering.{HasGathered}
use Rattle.rec_salvage.specs.Keeping.{IsStore}
use Rattle.rec_salvage.specs.Refusals.{prefix_refusal}
use Rattle.rec_salvage.specs.Salvaged.{is_sound, manifest_text, named_entries, salvaged_bundle}
use Rattle.rec_salvage.specs.Salvaged.{salvaged_contents, salvaged_events, salvaged_lines}
use Rattle.rec_salvage.specs.Salvaged.{salvaged_log, salvaged_run, salvaged_sizes, salvaged_store}
use Rattle.rec_salvage.specs.Salvages.{IsBundle, IsMade, Salvages}
use Rattle.rec_salvage.specs.WholeLines.{whole_lines}

-- ---- the entries of a bundle have spellings

-- each byte is below 128
abbrev are_small : List ℕ → Bool
are_small s = list_all (λ b. nat_lt b 128) s

ascii_from : (s : List ℕ) → are_small s ≡ true → IsAscii s
ascii_from [] h i = omega arith
ascii_from (b ∷ s) h zero = ltb-true b 128 (and_parts _ _ h).0
ascii_from (b ∷ s) h (suc i) = ascii_from s (and_parts _ _ h).1 i

name_of : (name : List ℕ) → 0 < length name → length name < 2 ^ 16 → are_small name ≡ true
    → IsName name
name_of name some short small =
    record { some = some; short = short; text = IsUtf8-from_ascii name (ascii_from name small) }

contents_from : (manifest log store : List ℕ)
    → length (spell (bundle_entries manifest log store)) < 2 ^ 64
    → AreFrom [] (bundle_entries manifest log store)
contents_from manifest log store small =
    let a = entry_named manifest_name manifest in
    let b = entry_named log_name log in
    let c = entry_named store_name store in
    let whole = length-spell (a ∷ b ∷ c ∷ []) in
    let first = length-append (entry a) (flat_map entry (b ∷ c ∷ [])) in
    let second = length-append (entry b) (flat_map entry (c ∷ [])) in
    let third = length-append (entry c) [] in (
      record {
        name = name_of manifest_name (omega arith) (omega arith) refl;
        content = omega (arith, whole, first, length-entry a, small);
      },
      refl,
      (
        record {
          name = name_of log_name (omega arith) (omega arith) refl;
          content = omega (arith, whole, first, second, length-entry b, small);
        },
        refl,
        (
          record {
            name = name_of store_name (omega arith) (omega arith) refl;
            content = omega (arith, whole, first, second, third, length-entry c, small);
          },
          refl,
          tt,
        ),
      ),
    )

-- ---- its parts

then_some : {A B : Type 0} (o : Option A) (x : A) (f : A → Option B) (y : B) → o ≡ Some x
    → f x ≡ Some y → (o >>= f) ≡ Some y
then_some o x f y is h = ap (λ p. p >>= f) is ∙ h

info_again : (info : RecordedRunInfo) → info_of (run_of info) ≡ info
info_again info = ap (λ (s : RecordedRunStatus). record info { status = s }) (of-format info.status)

module _ (run : RecordedRunInfo) (log : List ℕ) (es : List Entry) (are : AreParts es)
    (events : List RecordedEvent) (outputs : List Entry) where
  abbrev parts : RecordedRunInfo → RunParts
  parts info = record {
    format_version = portable_version;
    run = info;
    cargo_metadata = are.cargo_metadata;
    test_list = are.test_list;
    record_opts = are.record_opts;
    build_scope = are.build_scope;
    rerun_info = are.rerun_info;
    events = events;
    outputs = outputs;
  }

  parts_are : IsManifest (manifest_of run) → log_events (lines log) ≡ Some events
      → outputs_of events es ≡ Some outputs → parts_of (manifest_text run) log es ≡ Some (parts run)
  parts_are well logged named =
      then_some (bytes_form manifest_form (manifest_text run)) (manifest_of run) _ _
      (manifest_back (manifest_of run) well)
      (then_some (log_events (lines log)) events _ _ logged
      (then_some (text_part es cargo_metadata_path) are.cargo_metadata _ _ are.cargo_metadata_read
      (then_some (part test_list_form es test_list_path) are.test_list _ _ are.test_list_read
      (then_some (part record_opts_form es record_opts_path)
      are.record_opts _ _ are.record_opts_read
      (then_some (part recorded_scope_form es build_scope_path)
      are.build_scope _ _ are.build_scope_read
      (then_some (maybe_part rerun_info_form _) are.rerun_info _ _ are.rerun_info_read
      (then_some (outputs_of events es) outputs _ _ named
      (ap (λ (info : RecordedRunInfo). Some (parts info)) (info_again run)))))))))

-- ---- its reading

module _ (run : RecordedRunInfo) (log : List ℕ) (es : List Entry) (are : AreFrom [] es)
    (sound : prefix_refusal es ≡ None) (well : IsManifest (manifest_of (salvaged_run run es log)))
    (small : length (salvaged_bundle run es log) < 2 ^ 64) where
  abbrev events : List RecordedEvent
  events = salvaged_events es log

  abbrev store : List Entry
  store = salvaged_store es log

  passing : AreParts store
  passing =
      parts_same store es
      (metadata_stays es events build_scope_path refl)
      (metadata_stays es events rerun_info_path refl)
      (metadata_stays es events test_list_path refl)
      (metadata_stays es events cargo_metadata_path refl)
      (metadata_stays es events record_opts_path refl)
      (parts_read es sound)

  logged : log_events (lines (salvaged_log es log)) ≡ Some events
  logged =
      ap log_events (lines_spelled (salvaged_lines es log) (sound_pieces (is_sound es) log))
      ∙ sound_events es (salvaged_lines es log) (sound_pass (is_sound es) (whole_lines log))

  pub recorded : RunRecord
  recorded =
      record_of_parts store (parts (salvaged_run run es log) (salvaged_log es log)
      store passing events (named_entries es events) (salvaged_run run es log))

  pub is_read : IsReading (salvaged_bundle run es log) recorded
  unfolding recorded
  is_read = record {
    manifest = manifest_text (salvaged_run run es log);
    log = salvaged_log es log;
    store = spell store;
    entries = store;
    bundled =
        IsContainer-spell (salvaged_contents run es log) (contents_from
        (manifest_text (salvaged_run run es log)) (salvaged_log es log) (spell store) small);
    stored = IsContainer-spell store (kept_from es events are);
    read =
        ap (option_map (record_of_parts store)) (parts_are (salvaged_run run es log)
        (salvaged_log es log) store passing events (named_entries es events) well logged
        (outputs_read es events
        (sound_outputs es (salvaged_lines es log) (sound_pass (is_sound es) (whole_lines log)))));
  }

  pub events_are : recorded.events ≡ map (event_resolved es) events
  unfolding recorded
  events_are = resolved_stay es events

-- the bundle that was made is what is salvaged
pub salvages : (run : RecordedRunInfo) (log bytes : List ℕ) (es : List Entry) (s : Salvaged)
    → IsWholePrefix bytes es → prefix_refusal es ≡ None → IsMade run log es s
    → Salvages run log bytes s
unfolding recorded
salvages run log bytes es s prefix sound made =
    let small = subst (λ (b : List ℕ). length b < 2 ^ 64) made.bundle made.short in
    let are = prefix.prefix.entries in
    record {
      entries = es;
      prefix = prefix;
      sound = sound;
      bundle = made.bundle;
      events = made.events;
      outputs = made.outputs;
      recorded = recorded run log es are sound made.manifest small;
      read =
          subst (λ (b : List ℕ). IsReading b (recorded run log es are sound made.manifest small))
          (sym made.bundle) (is_read run log es are sound made.manifest small);
      run_is = refl;
      events_are = events_are run log es are sound made.manifest small;
      outputs_are = refl;
    }

-- ---- what was made

pub made : (run : RecordedRunInfo) (log : List ℕ) (es : List Entry) (n : ℕ) (g : Gathered)
    (s : KeptStore) (sizes : RecordedSizes) (seen : List ℕ) (bundle : List ℕ)
    → n ≤ length log
    → take n log ≡ salvaged_log es log → HasGathered (salvaged_events es log) g
    → IsStore (salvaged_store es log) (length (named_entries es (salvaged_events es log))) s
    → sizes.log ≡ sizes_of_log n g.events → sizes.store ≡ s.sizes → seen ≡ s.bytes.items
    → IsBundle (record run { sizes = sizes }) (take n log) seen bundle
    → IsMade run log es (record { bundle = bundle; events = g.events; outputs = s.outputs })
made run log es n g s sizes seen bundle within taken gathered kept log_sizes store_sizes same_bytes
    is =
    let size : n ≡ length (salvaged_log es log) =
    sym (length-take-le n log within) ∙ ap length taken in
    let of_log : sizes.log
    ≡ sizes_of_log (length (salvaged_log es log)) (length (salvaged_events es log)) =
    log_sizes ∙ ap (λ k. sizes_of_log k g.events) size
    ∙ ap (sizes_of_log (length (salvaged_log es log))) gathered.count in
    let same : sizes ≡ salvaged_sizes es log =
    ap (λ (c : ComponentSizes). record sizes { log = c }) of_log
    ∙ ap (λ (c : ComponentSizes). let made : RecordedSizes = record {
      log = sizes_of_log (length (salvaged_log es log)) (length (salvaged_events es log));
      store = c;
    } in made) (store_sizes ∙ kept.sizes) in
    let run_of_sizes : RecordedSizes → RecordedRunInfo = λ x. record run { sizes = x } in
    record {
      bundle = is.spelled
          ∙ ap (λ (x : RecordedSizes).
          spell (bundle_entries (manifest_text (run_of_sizes x)) (take n log) seen))
          same
          ∙ ap (λ b. spell (bundle_entries (manifest_text (salvaged_run run es log)) b seen)) taken
          ∙ ap (λ b.
          spell (bundle_entries (manifest_text (salvaged_run run es log)) (salvaged_log es log) b))
          (same_bytes ∙ kept.bytes);
      short = is.short;
      manifest =
          subst (λ (x : RecordedSizes). IsManifest (manifest_of (run_of_sizes x))) same is.manifest;
      events = gathered.count;
      outputs = kept.count;
    }
