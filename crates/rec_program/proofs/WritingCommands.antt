-- What the status of a command says that reads a bundle and writes another.
use Rattle.std.proofs.Common.{◌≡◌, ◌⊎◌, inl, inr, ℕ, ◌≤◌, ◌<◌, lit<, List, length, Option}
use Rattle.std.proofs.Common.{None, Some, Result, Ok, Err, refl, sym, ap, subst, ◌∙◌, arith}
use Rattle.std.specs.Io.KnownBytes.{Appends}
use Rattle.rec_container.specs.Causes.{Rose}
use Rattle.rec_container.specs.Container.{Entry, IsContainer}
use Rattle.rec_container.specs.declared.within.ReadError.TheVariants as read
use Rattle.rec_container.specs.declared.within.ReadError.{ReadError}
use Rattle.rec_container.specs.Taking.{TookPart}
use Rattle.rec_container.specs.WholePrefixes.{IsWholePrefix}
use Rattle.rec_container.specs.Within.{Gave, Unread}
use Rattle.rec_format.specs.declared.manifest.PortableManifest.{PortableManifest}
use Rattle.rec_store.specs.declared.read_error.RecordReadError.TheVariants as parts
use Rattle.rec_store.specs.declared.read_error.RecordReadError.{RecordReadError}
use Rattle.rec_store.specs.RunParts.{RunParts, written}
use Rattle.rec_portable.proofs.OneUpgrade.{accepted_not_refused}
use Rattle.rec_portable.specs.declared.errors.PortableRecordingReadError.{
  PortableRecordingReadError,
}
use Rattle.rec_portable.specs.declared.upgrade_error.UpgradeError.TheVariants as upgrades
use Rattle.rec_portable.specs.declared.upgrade_error.UpgradeError.{UpgradeError}
use Rattle.rec_portable.specs.declared.upgrades.Upgraded.{Upgraded}
use Rattle.rec_portable.specs.Errors.{source_error}
use Rattle.rec_portable.specs.Judging.{judged}
use Rattle.rec_portable.specs.Upgrades.{NotUpgraded, Upgrades}
use Rattle.rec_portable.specs.Upgrading.{IsAccepted, IsRefused, open_error}
use Rattle.rec_salvage.specs.declared.errors.SalvageError.TheVariants as salvages
use Rattle.rec_salvage.specs.declared.errors.SalvageError.{SalvageError}
use Rattle.rec_salvage.specs.declared.salvaging.Salvaged.{Salvaged}
use Rattle.rec_salvage.specs.Refusals.{IsRefusal, prefix_refusal}
use Rattle.rec_salvage.specs.Salvages.{Salvages}
use Rattle.rec_export.proofs.Complete.{no_more, same_session}
use Rattle.rec_export.specs.declared.settings.Settings.{Settings}
use Rattle.rec_faults.specs.WritingCommands.{run_part_status, upgrade_status}
use Rattle.rec_program.proofs.BundlesShown.{withheld}
use Rattle.rec_program.proofs.Commands.{printed_of}
use Rattle.rec_program.proofs.RunsSalvaged.{stopped_unfound}
use Rattle.rec_program.proofs.StatusesAbove.{bundle_above}
use Rattle.rec_program.proofs.StatusesAbove.{salvage_above}
use Rattle.rec_program.specs.Counts.{counts_line}
use Rattle.rec_program.specs.declared.salvage_refusal.SalvageRefusal.TheVariants.{
  Bundle,
  Store,
  BundleFailed,
  OutOfMemory,
}
use Rattle.rec_program.specs.declared.salvage_refusal.SalvageRefusal.{SalvageRefusal}
use Rattle.rec_program.specs.ReadingCommands.{OfJudged, Shows}
use Rattle.rec_program.specs.Running.{RunsSalvage, RunsUpgrade}
use Rattle.rec_program.specs.Salvaging.{RefusesStore, SalvagesRun, StoppedRun, bundle_refusal}
use Rattle.rec_program.specs.Salvaging.{refusal_status, store_refusal, stopped_run}

-- ---- the statuses of refusals are above those of success and of faulty words

run_part_above : (e : RecordReadError) → 2 < run_part_status e
run_part_above (parts.RunNotFound path) = lit< tt
run_part_above (parts.OpenArchive path) = lit< tt
run_part_above (parts.ParseArchive path fault) = lit< tt
run_part_above (parts.FileNotFound file_name) = lit< tt
run_part_above (parts.FileTooLarge file_name size limit) = lit< tt
run_part_above (parts.NotUtf8 file_name) = lit< tt
run_part_above (parts.DeserializeMetadata file_name) = lit< tt
run_part_above (parts.UnknownOutputType file_name) = lit< tt
run_part_above (parts.ExtractFile store_path) = lit< tt
run_part_above (parts.OpenRunLog path) = lit< tt
run_part_above (parts.DiskFault path) = lit< tt
run_part_above (parts.ReadRunLog line_number) = lit< tt
run_part_above (parts.ParseEvent line_number) = lit< tt
run_part_above parts.OutOfMemory = lit< tt

pub upgrade_above : (e : UpgradeError) → 2 < upgrade_status e
upgrade_above (upgrades.Open e) = bundle_above e
upgrade_above (upgrades.ForeignEntry file_name) = lit< tt
upgrade_above (upgrades.Read e) = run_part_above e
upgrade_above upgrades.CountOutOfRange = lit< tt
upgrade_above (upgrades.FileTooLarge file_name size limit) = lit< tt
upgrade_above upgrades.BundleFault = lit< tt
upgrade_above upgrades.OutOfMemory = lit< tt

pub refusal_above : (e : SalvageRefusal) → 2 < refusal_status e
refusal_above (Bundle e) = bundle_above e
refusal_above (Store e) = salvage_above e
refusal_above BundleFailed = lit< tt
refusal_above OutOfMemory = lit< tt

-- ---- `upgrade`

module _ {S B G : Type 0} (left : S → Option (List ℕ)) (source_faults : S → ℕ)
    (taken : B → Option (List ℕ)) (bundle_faults : B → ℕ) (diag_taken : G → Option (List ℕ))
    (diag_faults : G → ℕ) (settings : Settings) (status : ℕ) (s0 s1 : S) (b0 b1 : B)
    (d0 d1 : G) where
  -- with status 0 the bundle was upgraded
  pub upgraded : status ≡ 0
      → RunsUpgrade left source_faults taken bundle_faults diag_taken diag_faults settings status s0
      s1 b0 b1 d0 d1
      → (u : Upgraded) × Upgrades left source_faults taken bundle_faults settings.session_limit
      settings.read_limit s0 s1 b0 b1 u
  upgraded zeroed (inl r) = r.1
  upgraded zeroed (inr r) =
      absurd (let above = upgrade_above r.0 in let same : status ≡ upgrade_status r.0 = r.2.0 in
      omega (arith, zeroed, same, above))

  -- with another the sink took nothing, or it failed
  NothingOrPart : Type 0
  NothingOrPart =
      (b1 ≡ b0)
      ⊎ ((status ≡ 10) × ((bytes : List ℕ) × (p : RunParts) × Gave left source_faults
      settings.session_limit s0 s1 bytes × IsAccepted bytes settings.read_limit p
      × TookPart (taken b0) (taken b1) (written p)))

  left_so : (e : UpgradeError) → status ≡ upgrade_status e
      → NotUpgraded left source_faults taken bundle_faults settings.session_limit
      settings.read_limit s0 s1 b0 b1 e
      → NothingOrPart
  unfolding NothingOrPart
  left_so e is (inl u) = inl u.3
  left_so e is (inr (inl r)) = inl r.3
  left_so e is (inr (inr f)) = inr (is ∙ ap upgrade_status f.4, (f.0, f.1, f.2, f.3, f.6))

  pub not_upgraded : ¬ (status ≡ 0)
      → RunsUpgrade left source_faults taken bundle_faults diag_taken diag_faults settings status s0
      s1 b0 b1 d0 d1
      → (b1 ≡ b0)
      ⊎ ((status ≡ 10) × ((bytes : List ℕ) × (p : RunParts) × Gave left source_faults
      settings.session_limit s0 s1 bytes × IsAccepted bytes settings.read_limit p
      × TookPart (taken b0) (taken b1) (written p)))
  unfolding NothingOrPart
  not_upgraded other (inl r) = absurd (other r.0)
  not_upgraded other (inr r) = left_so r.0 r.2.0 r.1

  module _ (bytes : List ℕ) (parts : RunParts) (has : left s0 ≡ Some bytes)
      (short : length bytes ≤ settings.session_limit)
      (is : IsAccepted bytes settings.read_limit parts)
      (source : ¬ (Rose (source_faults s0) (source_faults s1)))
      (sink : ¬ (Rose (bundle_faults b0) (bundle_faults b1))) where
    unread : (e : UpgradeError) (fault : ReadError) → e ≡ open_error (source_error fault)
        → Unread left source_faults settings.session_limit s0 s1 fault → e ≡ upgrades.OutOfMemory
    unread e read.SourceFault h u = absurd (source u.0)
    unread e (read.TooLarge most) h u =
        let longer = no_more (left s0) (left s1) bytes u.2.0 has u.2.1 in let count = u.2.2 in
        absurd (omega arith)
    unread e read.OutOfMemory h u = h

    only_memory : (e : UpgradeError)
        → NotUpgraded left source_faults taken bundle_faults settings.session_limit
        settings.read_limit s0 s1 b0 b1 e
        → e ≡ upgrades.OutOfMemory
    only_memory e (inl u) = unread e u.0 u.1 u.2
    only_memory e (inr (inl (given, gave, inl h, kept))) = h
    only_memory e (inr (inl (given, gave, inr refused, kept))) =
        let same = same_session (left s0) (left s1) bytes given has gave.gave gave.ended in
        absurd
        (accepted_not_refused bytes settings.read_limit parts e is
        (subst (λ (b : List ℕ). IsRefused b settings.read_limit e) same refused))
    only_memory e (inr (inr f)) = absurd (sink f.5)

    -- what can be upgraded is upgraded, unless memory runs out or an object fails
    pub upgraded_or_memory : RunsUpgrade left source_faults taken bundle_faults diag_taken
        diag_faults settings status s0 s1 b0 b1 d0 d1
        → (status ≡ 0) ⊎ (status ≡ 70)
    upgraded_or_memory (inl r) = inl r.0
    upgraded_or_memory (inr r) = inr (r.2.0 ∙ ap upgrade_status (only_memory r.0 r.1))

-- ---- `salvage`

module _ {S B T G : Type 0} (left : S → Option (List ℕ)) (source_faults : S → ℕ)
    (taken : B → Option (List ℕ)) (bundle_faults : B → ℕ) (out_taken : T → Option (List ℕ))
    (out_faults : T → ℕ) (diag_taken : G → Option (List ℕ)) (diag_faults : G → ℕ)
    (settings : Settings) (status : ℕ) (s0 s1 : S) (b0 b1 : B) (o0 o1 : T) (d0 d1 : G) where
  -- what was salvaged of the source, and of which run
  abbrev Made : Salvaged → Type 0
  Made made =
      (bytes : List ℕ) × (es : List Entry) × (stopped : StoppedRun)
      × Gave left source_faults settings.session_limit s0 s1 bytes × IsContainer bytes es
      × (stopped_run settings.read_limit es ≡ Ok stopped)
      × Salvages stopped.run stopped.log stopped.store made

  of_run : (s : Salvaged)
      → Shows bundle_refusal SalvagesRun settings.read_limit left source_faults
      settings.session_limit s0 s1 s
      → Made s
  of_run s (bytes, gave, is) =
      let p = printed_of bundle_refusal SalvagesRun settings.read_limit bytes s is in
      (bytes, p.0, p.4.0, gave, p.2, p.4.1, p.4.2)

  -- with status 0 it was written, and counted
  pub salvaged : status ≡ 0
      → RunsSalvage left source_faults taken bundle_faults out_taken out_faults diag_taken
      diag_faults settings status s0 s1 b0 b1 o0 o1 d0 d1
      → (made : Salvaged) × ((bytes : List ℕ) × (es : List Entry) × (stopped : StoppedRun)
      × Gave left source_faults settings.session_limit s0 s1 bytes × IsContainer bytes es
      × (stopped_run settings.read_limit es ≡ Ok stopped)
      × Salvages stopped.run stopped.log stopped.store made)
      × Appends (taken b0) (taken b1) made.bundle
      × Appends (out_taken o0) (out_taken o1) (counts_line made.events made.outputs)
  salvaged zeroed (inl (s, shows, inl (took, inl p))) = (s, of_run s shows, took, p.1)
  salvaged zeroed (inl (s, shows, inl (took, inr p))) =
      absurd (let eleven : status ≡ 11 = p.0 in omega (arith, zeroed, eleven))
  salvaged zeroed (inl (s, shows, inr f)) =
      absurd (let ten : status ≡ 10 = f.3.0 in omega (arith, zeroed, ten))
  salvaged zeroed (inr r) =
      absurd (let above = refusal_above r.0 in let same : status ≡ refusal_status r.0 = r.4.0 in
      omega (arith, zeroed, same, above))

  -- with another the bundle's sink took nothing, all of it or a part
  pub not_salvaged : ¬ (status ≡ 0)
      → RunsSalvage left source_faults taken bundle_faults out_taken out_faults diag_taken
      diag_faults settings status s0 s1 b0 b1 o0 o1 d0 d1
      → (b1 ≡ b0)
      ⊎ ((made : Salvaged) × ((bytes : List ℕ) × (es : List Entry) × (stopped : StoppedRun)
      × Gave left source_faults settings.session_limit s0 s1 bytes × IsContainer bytes es
      × (stopped_run settings.read_limit es ≡ Ok stopped)
      × Salvages stopped.run stopped.log stopped.store made)
      × (((status ≡ 11) × Appends (taken b0) (taken b1) made.bundle)
      ⊎ ((status ≡ 10) × TookPart (taken b0) (taken b1) made.bundle)))
  not_salvaged other (inl (s, shows, inl (took, inl p))) = absurd (other p.0)
  not_salvaged other (inl (s, shows, inl (took, inr p))) =
      inr (s, of_run s shows, inl (p.0, took))
  not_salvaged other (inl (s, shows, inr f)) = inr (s, of_run s shows, inr (f.3.0, f.1))
  not_salvaged other (inr r) = inl r.2

  module _ (bytes : List ℕ) (es prefix : List Entry) (stopped : StoppedRun)
      (has : left s0 ≡ Some bytes) (short : length bytes ≤ settings.session_limit)
      (is : IsContainer bytes es) (found : stopped_run settings.read_limit es ≡ Ok stopped)
      (whole : IsWholePrefix stopped.store prefix) (sound : prefix_refusal prefix ≡ None)
      (source : ¬ (Rose (source_faults s0) (source_faults s1)))
      (sink : ¬ (Rose (bundle_faults b0) (bundle_faults b1)))
      (out : ¬ (Rose (out_faults o0) (out_faults o1))) where
    -- a store whose metadata is read is refused for want of memory alone
    unrefused : (store : List ℕ) (fault : SalvageError) → store ≡ stopped.store
        → RefusesStore store fault → fault ≡ salvages.OutOfMemory
    unrefused store fault same r =
        subst (λ (o : Option SalvageError). IsRefusal o fault) sound
        (r.first prefix (subst (λ (b : List ℕ). IsWholePrefix b prefix) (sym same) whole))

    same_run : (other : StoppedRun) → stopped_run settings.read_limit es ≡ Ok other
        → other ≡ stopped
    same_run other h = let both = sym h ∙ found in cc

    run_unrefused : (e : SalvageRefusal) → SalvagesRun settings.read_limit es (Err e)
        → e ≡ OutOfMemory
    run_unrefused e (inl r) = absurd (let both = sym found ∙ r.1 in cc)
    run_unrefused e (inr r) = r.4 ∙ ap store_refusal
        (unrefused r.0.store r.1 (ap (λ (s : StoppedRun). s.store) (same_run r.0 r.2)) r.3)

    accepted : (j : Result PortableManifest PortableRecordingReadError)
        → judged settings.read_limit es ≡ j → (e : SalvageRefusal)
        → OfJudged bundle_refusal SalvagesRun settings.read_limit es j (Err e)
        → e ≡ OutOfMemory
    accepted (Ok manifest) h e made = run_unrefused e made
    accepted (Err fault) h e made =
        absurd (let unfound = stopped_unfound settings.read_limit es fault h in
        let both = sym found ∙ unfound in cc)

    -- what can be salvaged is salvaged, unless memory runs out or an object fails
    pub salvaged_or_memory : RunsSalvage left source_faults taken bundle_faults out_taken out_faults
        diag_taken diag_faults settings status s0 s1 b0 b1 o0 o1 d0 d1
        → (status ≡ 0) ⊎ (status ≡ 70)
    salvaged_or_memory (inl (s, shows, inl (took, inl p))) = inl p.0
    salvaged_or_memory (inl (s, shows, inl (took, inr p))) = absurd (out p.1)
    salvaged_or_memory (inl (s, shows, inr f)) = absurd (sink f.0)
    salvaged_or_memory (inr r) =
        let only = withheld bundle_refusal SalvagesRun settings.read_limit left source_faults
        settings.session_limit s0 s1 bytes es has short is
        (accepted (judged settings.read_limit es) refl) source in
        inr (r.4.0 ∙ ap refusal_status (only r.0 r.1))
