-- Files of a run that are looked for one after the other.
use Rattle.std.proofs.Common.{◌≡◌, ℕ, ◌≤◌, List, Option, Result, Ok, Err, subst, inr, arith}
use Rattle.std.specs.Prelude.{IfErr}
use Rattle.rec_container.specs.Causes.{Rose}
use Rattle.rec_disk.specs.Disks.{Files}
use Rattle.rec_store.specs.Entries.{log_name}
use Rattle.rec_directory.specs.Directories.{HasFailed, IsOpened}
use Rattle.rec_directory.specs.Files.{IsMissing}
use Rattle.rec_directory.specs.Paths.{joined, path_of_store}
use Rattle.rec_portable_writer.specs.declared.errors.PortableRecordingError.TheVariants.{
  RunDirNotFound,
  RequiredFileMissing,
  ReadFile,
  WriteFile,
  DiskFault,
  OutOfMemory,
}
use Rattle.rec_portable_writer.specs.declared.errors.PortableRecordingError.{PortableRecordingError}
use Rattle.rec_portable_writer.specs.Preparing.{HasOne, LacksOne, Unprepared}

module _ {D : Type 0} (files : D → Option Files) (faults : D → ℕ) (before after : D) (dir : List ℕ)
    (same : files after ≡ files before) (later : faults before ≤ faults after) where
  -- what is lacked later was lacked before
  lacks_before : (name : List ℕ) (e : PortableRecordingError)
      → LacksOne files faults after dir name e → LacksOne files faults before dir name e
  lacks_before name (RunDirNotFound p) h = absurd h
  lacks_before name (RequiredFileMissing d n) h =
      (h.0, h.1, subst (λ (fs : Option Files). IsMissing fs (joined dir name)) same h.2)
  lacks_before name (ReadFile n) h = absurd h
  lacks_before name (WriteFile p) h = absurd h
  lacks_before name (DiskFault p) h =
      let failed : HasFailed faults after = h.1 in
      let rose : Rose (faults after) (faults failed.0) = failed.1 in
      (h.0, (failed.0, omega (arith, rose, later)))
  lacks_before name OutOfMemory h = tt

  pub unprepared_log : (r : Result (Unit {0}) PortableRecordingError) → IsOpened (files before) dir
      → HasOne (files before) (path_of_store dir)
      → IfErr r (LacksOne files faults after dir log_name)
      → IfErr r (Unprepared files faults before dir)
  unprepared_log (Ok x) opened store h = tt
  unprepared_log (Err e) opened store h = inr (inr (opened, store, lacks_before log_name e h))
