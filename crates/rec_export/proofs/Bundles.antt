-- The contents of bundles, and what is judged of them.
use Rattle.std.proofs.Common.{◌≡◌, ℕ, List, ◌∷◌, Option, Some, None, option_map, ap, refl, sym, ◌∙◌}
use Rattle.std.specs.Option.{option_or}
use Rattle.serde_json.specs.Written.{compact_text}
use Rattle.rec_container.specs.Container.{Entry, spell}
use Rattle.rec_container.specs.Writing.{entry_named}
use Rattle.rec_format.specs.declared.head.SessionHead.{SessionHead}
use Rattle.rec_format.specs.declared.sizes.RecordedSizes.{RecordedSizes}
use Rattle.rec_format.specs.RunForms.{manifest_value}
use Rattle.rec_format.specs.Runs.{manifest_of, recorded_info}
use Rattle.rec_codec.specs.Event.{LiveEvent}
use Rattle.rec_store.specs.Bundle.{manifest_text, run_bundle, run_entries}
use Rattle.rec_store.specs.Bundle.{run_log, run_sizes, run_store}
use Rattle.rec_store.specs.Entries.{bundle_entries, log_name, manifest_name}
use Rattle.rec_store.specs.SizesJudged.{first_too_large, too_large}
use Rattle.rec_errors.specs.declared.export_error.RecordExportError.{RecordExportError}
use Rattle.rec_export.specs.Bundle.{sizes_refusal}
use Rattle.rec_export.specs.declared.settings.Settings.{Settings}
use Rattle.rec_export.specs.Prepared.{contents_refusal, length_refusal}
use Rattle.rec_export.specs.Sizes.{entries_refusal, entry_refusal, size_fault}

-- the last of several causes, after the others
or_assoc : {E : Type 0} (a b c d : Option E)
    → option_or (option_or a (option_or b c)) d ≡ option_or a (option_or b (option_or c d))
or_assoc None None None d = refl
or_assoc None None (Some z) d = refl
or_assoc None (Some y) c d = refl
or_assoc (Some x) b c d = refl

-- the first refusal, and those of the others
map_or : {A B : Type 0} (f : A → B) (a b : Option A)
    → option_map f (option_or a b) ≡ option_or (option_map f a) (option_map f b)
map_or f None b = refl
map_or f (Some x) b = refl

next_refusal : (limit : ℕ) (e : Entry) (es : List Entry)
    → entries_refusal limit (e ∷ es) ≡ option_or (entry_refusal limit e) (entries_refusal limit es)
next_refusal limit e es = map_or size_fault (too_large limit e) (first_too_large limit es)

module _ (number : List ℕ → ℕ) (m : ℕ) (head : SessionHead) (events : List LiveEvent)
    (sizes : RecordedSizes) (manifest : List ℕ) (same : sizes ≡ run_sizes number m head events)
    (text : manifest ≡ compact_text (manifest_value (manifest_of (recorded_info head sizes)))) where
  written : manifest ≡ manifest_text number m head events
  unfolding manifest_text
  written = text ∙ ap
      (λ (z : RecordedSizes). compact_text (manifest_value (manifest_of (recorded_info head z))))
      same

  -- the entries of a bundle, by its three texts
  pub same_entries : (log store : List ℕ) → log ≡ run_log number m events
      → store ≡ spell (run_store number m head events)
      → bundle_entries manifest log store ≡ run_entries number m head events
  same_entries log store logged stored =
      ap (λ t. bundle_entries t log store) written
      ∙ ap (λ l. bundle_entries (manifest_text number m head events) l store) logged
      ∙ ap (bundle_entries (manifest_text number m head events) (run_log number m events)) stored

module _ (number : List ℕ → ℕ) (settings : Settings) (head : SessionHead) (events : List LiveEvent)
    (sizes : RecordedSizes) (same : sizes ≡ run_sizes number settings.max_output head events) where
  abbrev m : ℕ
  m = settings.max_output

  -- what is judged of the contents, and then of the store's entries,
  -- is what is judged of the run's sizes
  pub same_refusals : (log store : List ℕ) → log ≡ run_log number m events
      → store ≡ spell (run_store number m head events)
      → option_or (contents_refusal settings.read_limit
      (compact_text (manifest_value (manifest_of (recorded_info head sizes)))) log store)
      (entries_refusal settings.read_limit (run_store number m head events))
      ≡ sizes_refusal number settings head events
  same_refusals log store logged stored =
      let manifest = compact_text (manifest_value (manifest_of (recorded_info head sizes))) in
      let text = manifest_text number m head events in
      let entries = run_store number m head events in
      let limit = settings.read_limit in
      ap (λ (t : List ℕ).
      option_or (contents_refusal limit t log store) (entries_refusal limit entries))
      (written number m head events sizes manifest same refl)
      ∙ ap (λ (l : List ℕ).
      option_or (contents_refusal limit text l store) (entries_refusal limit entries))
      logged
      ∙ ap (λ (l : List ℕ). option_or (contents_refusal limit text (run_log number m events) l)
      (entries_refusal limit entries))
      stored
      ∙ or_assoc (length_refusal (run_bundle number m head events))
      (entry_refusal limit (entry_named manifest_name text))
      (entry_refusal limit (entry_named log_name (run_log number m events)))
      (entries_refusal limit entries)
      ∙ ap (λ (o : Option RecordExportError).
      option_or (length_refusal (run_bundle number m head events)) o)
      (sym (next_refusal limit (entry_named manifest_name text)
      (entry_named log_name (run_log number m events) ∷ entries)
      ∙ ap (option_or (entry_refusal limit (entry_named manifest_name text)))
      (next_refusal limit (entry_named log_name (run_log number m events)) entries)))

  -- the same, where the refusal of an entry is at hand
  pub same_judged : (log store : List ℕ) (too_large : Option RecordExportError)
      → log ≡ run_log number m events → store ≡ spell (run_store number m head events)
      → too_large ≡ entries_refusal settings.read_limit (run_store number m head events)
      → option_or (contents_refusal settings.read_limit
      (compact_text (manifest_value (manifest_of (recorded_info head sizes)))) log store)
      too_large
      ≡ sizes_refusal number settings head events
  same_judged log store too_large logged stored judged =
      ap (λ (o : Option RecordExportError). option_or (contents_refusal settings.read_limit
      (compact_text (manifest_value (manifest_of (recorded_info head sizes)))) log store) o) judged
      ∙ same_refusals log store logged stored
