-- A run that is judged, and then written anew.
use Rattle.std.proofs.Common.{◌≡◌, ◌<◌, ◌^◌, ◌⊎◌, inl, inr, ℕ, List, length, Option, Some}
use Rattle.std.proofs.Common.{None, Result, Ok, Err, IfOk, IfErr, refl, sym, ap, subst, ◌∙◌}
use Rattle.std.specs.List.{flat_map}
use Rattle.rec_container.specs.Container.{Entry, IsContainer, content_of}
use Rattle.rec_container.specs.Reading.{◌>>=◌}
use Rattle.rec_format.specs.declared.manifest.PortableManifest.{PortableManifest}
use Rattle.rec_store.specs.declared.read_error.RecordReadError.{RecordReadError}
use Rattle.rec_store.specs.Entries.{store_name}
use Rattle.rec_store.specs.JudgedParts.{first_unnamed, parts_judged}
use Rattle.rec_store.specs.Kept.{event_paths}
use Rattle.rec_store.specs.Readers.{Refuses}
use Rattle.rec_store.specs.RunParts.{RunParts}
use Rattle.rec_portable.proofs.RewrittenParts.{refused_read}
use Rattle.rec_portable.specs.declared.errors.PortableRecordingReadError.TheVariants as opens
use Rattle.rec_portable.specs.declared.errors.PortableRecordingReadError.{
  PortableRecordingReadError,
}
use Rattle.rec_portable.specs.declared.upgrade_error.UpgradeError.TheVariants.{OutOfMemory}
use Rattle.rec_portable.specs.declared.upgrade_error.UpgradeError.{UpgradeError}
use Rattle.rec_portable.specs.declared.upgrading.Rewritten.{Rewritten}
use Rattle.rec_portable.specs.Errors.{Reads}
use Rattle.rec_portable.specs.Judging.{judged}
use Rattle.rec_portable.specs.OuterEntries.{IsStoreRefused, OpensStore, log_part}
use Rattle.rec_portable.specs.Rewriting.{IsRewritten}
use Rattle.rec_portable.specs.Stores.{StoreReading}
use Rattle.rec_portable.specs.Upgrading.{IsAccepted, IsOpened, IsRefused, IsUnopened, names_judged}
use Rattle.rec_portable.specs.Upgrading.{none_foreign, open_error, or_read_error, read_error}
use Rattle.rec_portable.specs.Upgrading.{run_judged, unless, upgrade_judged, written_refusal}

-- ---- a run

module _ (limit : ℕ) (m : PortableManifest) (log : List ℕ) (es : List Entry) where
  named_after : RunParts → Result RunParts UpgradeError
  named_after p =
      none_foreign (first_unnamed (flat_map event_paths p.events) es)
      >>= (λ _. unless (written_refusal limit p) p)

  parts_refused : (e : UpgradeError) → or_read_error (parts_judged limit m log es) ≡ Err e
      → run_judged limit m log es ≡ Err e
  unfolding named_after
  parts_refused e h = ap (λ r. r >>= named_after) h

  -- a part that isn't read
  pub run_unread : (x : RecordReadError) → Refuses (parts_judged limit m log es) x
      → (read_error x ≡ OutOfMemory) ⊎ (run_judged limit m log es ≡ Err (read_error x))
  run_unread x h = by (refused_read (parts_judged limit m log es) x h)
    where
      by : (read_error x ≡ OutOfMemory)
          ⊎ (or_read_error (parts_judged limit m log es) ≡ Err (read_error x))
          → (read_error x ≡ OutOfMemory) ⊎ (run_judged limit m log es ≡ Err (read_error x))
      by (inl memory) = inl memory
      by (inr refused) = inr (parts_refused (read_error x) refused)

  module _ (p : RunParts) (parts : parts_judged limit m log es ≡ Ok p) where
    after_parts : run_judged limit m log es ≡ named_after p
    unfolding named_after
    after_parts = ap (λ r. or_read_error r >>= named_after) parts

    -- an entry without a place
    pub run_foreign : (e : UpgradeError)
        → (e ≡ OutOfMemory)
        ⊎ (none_foreign (first_unnamed (flat_map event_paths p.events) es) ≡ Err e)
        → (e ≡ OutOfMemory) ⊎ (run_judged limit m log es ≡ Err e)
    unfolding named_after
    run_foreign e (inl memory) = inl memory
    run_foreign e (inr h) =
        inr (after_parts ∙ ap (λ r. r >>= (λ _. unless (written_refusal limit p) p)) h)

    module _ (u : Unit {0})
        (named : none_foreign (first_unnamed (flat_map event_paths p.events) es) ≡ Ok u) where
      after_names : run_judged limit m log es ≡ unless (written_refusal limit p) p
      unfolding named_after
      after_names = after_parts ∙ ap (λ r. r >>= (λ _. unless (written_refusal limit p) p)) named

      pub run_made : (r : Result Rewritten UpgradeError)
          → IfOk r (λ x. (written_refusal limit p ≡ None) × IsRewritten p x)
          → IfOk r (λ x. (q : RunParts) × (run_judged limit m log es ≡ Ok q) × IsRewritten q x)
      run_made (Ok x) h = (p, after_names ∙ ap (λ o. unless o p) h.0, h.1)
      run_made (Err e) h = tt

      pub run_refused : (r : Result Rewritten UpgradeError)
          → IfErr r (λ e. (e ≡ OutOfMemory) ⊎ (written_refusal limit p ≡ Some e))
          → IfErr r (λ e. (e ≡ OutOfMemory) ⊎ (run_judged limit m log es ≡ Err e))
      run_refused (Ok x) h = tt
      run_refused (Err e) (inl memory) = inl memory
      run_refused (Err e) (inr refused) = inr (after_names ∙ ap (λ o. unless o p) refused)

-- ---- a bundle

module _ (bytes : List ℕ) (limit : ℕ) (outer : List Entry) (m : PortableManifest)
    (spelled : IsContainer bytes outer) (is_judged : judged limit outer ≡ Ok m) where
  not_opened : (e : UpgradeError) (x : PortableRecordingReadError) → e ≡ open_error x
      → IsUnopened bytes limit x → (e ≡ OutOfMemory) ⊎ IsRefused bytes limit e
  not_opened e x is h = inr (inl (x, is, h))

  pub log_unread : (e : UpgradeError) (x : PortableRecordingReadError) → e ≡ open_error x
      → (x ≡ opens.OutOfMemory) ⊎ (log_part limit outer ≡ Err x)
      → (e ≡ OutOfMemory) ⊎ IsRefused bytes limit e
  log_unread e x is (inl memory) = inl (is ∙ ap open_error memory)
  log_unread e x is (inr refused) =
      not_opened e x is (inr (outer, spelled, inr (inl (m, is_judged, refused))))

  module _ (log : List ℕ) (log_read : log_part limit outer ≡ Ok log) where
    pub store_unopened : (e : UpgradeError) (x : PortableRecordingReadError) → e ≡ open_error x
        → (x ≡ opens.OutOfMemory) ⊎ IsStoreRefused (content_of outer store_name) x
        → (e ≡ OutOfMemory) ⊎ IsRefused bytes limit e
    store_unopened e x is (inl memory) = inl (is ∙ ap open_error memory)
    store_unopened e x is (inr refused) =
        not_opened e x is (inr (outer, spelled, inr (inr (m, log, is_judged, log_read, refused))))

    module _ (store : List ℕ) (es : List Entry) (found : content_of outer store_name ≡ Some store)
        (stored : IsContainer store es) where
      abbrev pub opened : IsOpened bytes limit
      opened = record {
        outer = outer;
        spelled = spelled;
        manifest = m;
        is_judged = is_judged;
        log = log;
        log_read = log_read;
        store = store;
        store_found = found;
        entries = es;
        stored = stored;
      }

      pub names_refused : (e : UpgradeError) → (e ≡ OutOfMemory) ⊎ (names_judged outer ≡ Err e)
          → (e ≡ OutOfMemory) ⊎ IsRefused bytes limit e
      names_refused e (inl memory) = inl memory
      names_refused e (inr refused) =
          inr (inr (opened, ap (λ r. r >>= (λ _. run_judged limit m log es)) refused))

      module _ (u : Unit {0}) (names : names_judged outer ≡ Ok u) where
        after_outer : upgrade_judged bytes limit opened ≡ run_judged limit m log es
        after_outer = ap (λ r. r >>= (λ _. run_judged limit m log es)) names

        pub bundle_made : (r : Result Rewritten UpgradeError)
            → IfOk r (λ x. (p : RunParts) × (run_judged limit m log es ≡ Ok p) × IsRewritten p x)
            → IfOk r (λ x. (p : RunParts) × IsAccepted bytes limit p × IsRewritten p x)
        bundle_made (Ok x) h = (h.0, (opened, after_outer ∙ h.1), h.2)
        bundle_made (Err e) h = tt

        pub bundle_refused : (r : Result Rewritten UpgradeError)
            → IfErr r (λ e. (e ≡ OutOfMemory) ⊎ (run_judged limit m log es ≡ Err e))
            → IfErr r (λ e. (e ≡ OutOfMemory) ⊎ IsRefused bytes limit e)
        bundle_refused (Ok x) h = tt
        bundle_refused (Err e) (inl memory) = inl memory
        bundle_refused (Err e) (inr refused) = inr (inr (opened, after_outer ∙ refused))

-- ---- a store that was opened

-- the store whose entries a reader has
pub store_found : (limit : ℕ) (o : Option (List ℕ)) (r : StoreReading) → OpensStore limit o (Ok r)
    → (store : List ℕ) × (o ≡ Some store) × IsContainer store r.entries
store_found limit None r h = absurd h
store_found limit (Some store) r h = (store, refl, h.1)

pub store_refused : (limit : ℕ) (o : Option (List ℕ)) (x : PortableRecordingReadError)
    → OpensStore limit o (Err x) → (x ≡ opens.OutOfMemory) ⊎ IsStoreRefused o x
store_refused limit None x h = h
store_refused limit (Some store) x h = h

pub log_is_read : (o : Result (List ℕ) PortableRecordingReadError) (log : List ℕ) → Reads o (Ok log)
    → o ≡ Ok log
log_is_read o log h = h
