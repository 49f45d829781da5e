-- What an upgrade does with a bundle.
use Rattle.std.specs.Io.KnownBytes.{Appends}
use Rattle.std.specs.Prelude.{◌≡◌, ℕ, ◌≤◌, List, length, Option, Some, None, Ok, ◌⊎◌}
use Rattle.rec_container.specs.Causes.{Rose}
use Rattle.rec_container.specs.declared.within.ReadError.{ReadError}
use Rattle.rec_container.specs.Taking.{TookPart}
use Rattle.rec_container.specs.Within.{Gave, Unread}
use Rattle.rec_forms.specs.TextForm.{bytes_form}
use Rattle.rec_format.specs.declared.manifest.PortableManifest.{PortableManifest}
use Rattle.rec_format.specs.RunForms.{manifest_form}
use Rattle.rec_format.specs.Versions.{portable_version}
use Rattle.rec_store.specs.Parts.{AreWithin}
use Rattle.rec_store.specs.Reading.{IsReading, RunRecord}
use Rattle.rec_store.specs.RunParts.{HasParts, RunParts, parts_of, settled_info, written}
use Rattle.rec_portable.specs.declared.upgrade_error.UpgradeError.TheVariants.{
  BundleFault,
  OutOfMemory,
}
use Rattle.rec_portable.specs.declared.upgrade_error.UpgradeError.{UpgradeError}
use Rattle.rec_portable.specs.declared.upgrades.Upgraded.{Upgraded}
use Rattle.rec_portable.specs.Errors.{source_error}
use Rattle.rec_portable.specs.Judging.{versions_checked}
use Rattle.rec_portable.specs.Upgrading.{IsAccepted, IsRefused, open_error, written_refusal}

-- what is counted of a run that was written anew
pub record AreCountsOf (p : RunParts) (u : Upgraded) : Type 0 where
  pub events : u.events ≡ length p.events
  pub outputs : u.outputs ≡ length p.outputs
  pub bundle_bytes : u.bundle_bytes ≡ length (written p)

-- The bytes are a bundle with these parts, and are read as this record; and what is written of the
-- parts is read as the same record but for the versions and the sizes
pub record IsReadAndBack (bytes : List ℕ) (p : RunParts) : Type 0 where
  pub has_parts : HasParts bytes p
  pub run : RunRecord
  pub reads : IsReading bytes run
  pub reads_back : IsReading (written p)
      (record run { format_version = portable_version; run = settled_info p })
  pub events : length run.events ≡ length p.events
  pub outputs : run.outputs ≡ p.outputs

-- The bytes have a reading, whose versions are read. Nothing that is read or to be written is
-- longer than the limit, and the length of what is to be written is a u64
pub record IsUpgradable (bytes : List ℕ) (limit : ℕ) (r : RunRecord) : Type 0 where
  pub reads : IsReading bytes r
  pub manifest : PortableManifest
  pub is_manifest : bytes_form manifest_form reads.manifest ≡ Some manifest
  pub versions : versions_checked manifest ≡ Ok manifest
  pub short_manifest : length reads.manifest ≤ limit
  pub short_log : length reads.log ≤ limit
  pub within : AreWithin reads.entries limit
  pub parts : RunParts
  pub are_parts : parts_of reads.manifest reads.log reads.entries ≡ Some parts
  pub fits : written_refusal limit parts ≡ None

module _ {S B : Type 0} (left : S → Option (List ℕ)) (source_faults : S → ℕ)
    (taken : B → Option (List ℕ)) (faults : B → ℕ) where
  -- The source was read to its end, and all its bytes are accepted as a bundle with these parts.
  -- The sink took the run written anew, which is read as the same run
  pub record Upgrades (spool limit : ℕ) (s0 s1 : S) (b0 b1 : B) (u : Upgraded) : Type 0 where
    pub bytes : List ℕ
    pub gave : Gave left source_faults spool s0 s1 bytes
    pub parts : RunParts
    pub accepted : IsAccepted bytes limit parts
    pub reads : IsReadAndBack bytes parts
    pub took : Appends (taken b0) (taken b1) (written parts)
    pub counts : AreCountsOf parts u

  -- why a bundle isn't upgraded: the source wasn't read to its end; or all its bytes are refused
  -- so, or memory ran out; or they are accepted, and the sink failed. But for the last,
  -- the sink is as it was
  abbrev pub NotUpgraded : ℕ → ℕ → S → S → B → B → UpgradeError → Type 0
  NotUpgraded spool limit s0 s1 b0 b1 e =
      ((r : ReadError) × (e ≡ open_error (source_error r)) × Unread left source_faults spool s0 s1 r
      × (b1 ≡ b0))
      ⊎ ((bytes : List ℕ) × Gave left source_faults spool s0 s1 bytes
      × ((e ≡ OutOfMemory) ⊎ IsRefused bytes limit e) × (b1 ≡ b0))
      ⊎ ((bytes : List ℕ) × (p : RunParts) × Gave left source_faults spool s0 s1 bytes
      × IsAccepted bytes limit p
      × (e ≡ BundleFault) × Rose (faults b0) (faults b1)
      × TookPart (taken b0) (taken b1) (written p))
