-- The steps of an upgrade, and how each of them may end.
use Rattle.std.proofs.Common.{◌≡◌, ◌⊎◌, inl, inr, ℕ, List}
use Rattle.std.proofs.Common.{Option, refl, ap, sym, subst, ◌∙◌}
use Rattle.std.specs.Io.KnownBytes.{Appends}
use Rattle.rec_container.specs.Causes.{Rose}
use Rattle.rec_container.specs.Container.{spell}
use Rattle.rec_container.specs.Taking.{TookPart}
use Rattle.rec_store.specs.Entries.{bundle_entries}
use Rattle.rec_store.specs.RunParts.{RunParts, written, written_log, written_manifest}
use Rattle.rec_portable.specs.declared.errors.PortableRecordingReadError.{
  PortableRecordingReadError,
}
use Rattle.rec_portable.specs.declared.upgrade_error.UpgradeError.TheVariants.{
  BundleFault,
  OutOfMemory,
}
use Rattle.rec_portable.specs.declared.upgrade_error.UpgradeError.{UpgradeError}
use Rattle.rec_portable.specs.declared.upgrading.Rewritten.{Rewritten}
use Rattle.rec_portable.specs.Judging.{Refuses}
use Rattle.rec_portable.specs.Opening.{Opening, Opens, Unopened}
use Rattle.rec_portable.specs.Rewriting.{IsRewritten}
use Rattle.rec_portable.specs.Upgrades.{IsReadAndBack, NotUpgraded, Upgrades}
use Rattle.rec_portable.specs.Upgrading.{IsAccepted, IsRefused, open_error}

refuses : (bytes : List ℕ) (limit : ℕ) (e : UpgradeError) (x : PortableRecordingReadError)
    → e ≡ open_error x → Refuses bytes limit x → (e ≡ OutOfMemory) ⊎ IsRefused bytes limit e
refuses bytes limit e x is (inl memory) = inl (is ∙ ap open_error memory)
refuses bytes limit e x is (inr (inl none)) = inr (inl (x, is, inl none))
refuses bytes limit e x is (inr (inr j)) = inr (inl (x, is, inr (j.0, j.1, inl j.2)))

module _ {S B : Type 0} (left : S → Option (List ℕ)) (source_faults : S → ℕ)
    (taken : B → Option (List ℕ)) (faults : B → ℕ) (spool limit : ℕ) (s0 s1 : S) where
  pub not_opened : (b : B) (e : UpgradeError) (x : PortableRecordingReadError) → e ≡ open_error x
      → Unopened left source_faults spool limit s0 s1 x
      → NotUpgraded left source_faults taken faults spool limit s0 s1 b b e
  not_opened b e x is (inl u) = inl (u.0, is ∙ ap open_error u.1, u.2, refl)
  not_opened b e x is (inr u) = inr (inl (u.0, u.1, refuses u.0 limit e x is u.2, refl))

  module _ (path : List ℕ) (o : Opening)
      (opens : Opens left source_faults path spool limit s0 s1 o) where
    pub not_rewritten : (b : B) (e : UpgradeError) → (e ≡ OutOfMemory) ⊎ IsRefused o.bytes o.limit e
        → NotUpgraded left source_faults taken faults spool limit s0 s1 b b e
    not_rewritten b e h = inr (inl (
      o.bytes,
      opens.gave,
      subst (λ (n : ℕ). (e ≡ OutOfMemory) ⊎ IsRefused o.bytes n e) opens.limit_is h,
      refl,
    ))

    module _ (p : RunParts) (r : Rewritten) (accepted : IsAccepted o.bytes o.limit p)
        (is : IsRewritten p r) (b0 b1 : B) where
      same : spell (bundle_entries r.manifest.items r.log.items r.store.items) ≡ written p
      same =
          ap (λ (x : List ℕ). spell (bundle_entries x r.log.items r.store.items)) is.manifest
          ∙ ap (λ (x : List ℕ). spell (bundle_entries (written_manifest p) x r.store.items)) is.log
          ∙ ap (λ (x : List ℕ). spell (bundle_entries (written_manifest p) (written_log p) x))
          is.store

      within : IsAccepted o.bytes limit p
      within = subst (λ (n : ℕ). IsAccepted o.bytes n p) opens.limit_is accepted

      pub not_delivered : (e : UpgradeError)
          → (e ≡ BundleFault) × Rose (faults b0) (faults b1) × TookPart (taken b0) (taken b1)
          (spell (bundle_entries r.manifest.items r.log.items r.store.items))
          → NotUpgraded left source_faults taken faults spool limit s0 s1 b0 b1 e
      not_delivered e h = inr (inr (
        o.bytes,
        p,
        opens.gave,
        within,
        h.0,
        h.1,
        subst (TookPart (taken b0) (taken b1)) same h.2,
      ))

      pub delivered : ((bytes : List ℕ) (n : ℕ) (q : RunParts) → IsAccepted bytes n q
          → IsReadAndBack bytes q)
          → Appends (taken b0) (taken b1)
          (spell (bundle_entries r.manifest.items r.log.items r.store.items))
          → Upgrades left source_faults taken faults spool limit s0 s1 b0 b1 r.upgraded
      delivered read took = record {
        bytes = o.bytes;
        gave = opens.gave;
        parts = p;
        accepted = within;
        reads = read o.bytes limit p within;
        took = subst (Appends (taken b0) (taken b1)) same took;
        counts = is.counts;
      }
