-- A run's directory, as the writer of its bundle finds it.
use Rattle.std.specs.Borrow.{MutBor}
use Rattle.std.specs.Prelude.{◌≡◌, ◌⊎◌, ℕ, ◌≤◌, is_some, IsTrue, List, Option, Some, None}
use Rattle.rec_disk.specs.Disks.{Files}
use Rattle.rec_format.specs.declared.run.RecordedRunInfo.{RecordedRunInfo}
use Rattle.rec_store.specs.Entries.{log_name, store_name}
use Rattle.rec_directory.specs.Directories.{HasFailed, IsNotThere, IsOpened}
use Rattle.rec_directory.specs.Files.{IsMissing}
use Rattle.rec_directory.specs.Paths.{joined, path_of_log, path_of_store}
use Rattle.rec_portable_writer.specs.declared.errors.PortableRecordingError.TheVariants.{
  RunDirNotFound,
  RequiredFileMissing,
  DiskFault,
  OutOfMemory,
}
use Rattle.rec_portable_writer.specs.declared.errors.PortableRecordingError.{PortableRecordingError}

-- the disk, the run, and its directory
pub record Packing (D : Type 0) : Type 0 where
  pub disk : MutBor D
  pub run_info : RecordedRunInfo
  pub run_dir : List ℕ

-- a file stands at the path, where the disk says its files
abbrev pub HasOne : Option Files → List ℕ → Type 0
HasOne None path = Unit {0}
HasOne (Some fs) path = IsTrue (is_some (fs path))

-- the directory is there with its store and its log
pub record HasFiles (files : Option Files) (dir : List ℕ) : Type 0 where
  pub directory : IsOpened files dir
  pub store : HasOne files (path_of_store dir)
  pub log : HasOne files (path_of_log dir)

-- the refusal of a directory that lacks a file, or want of memory for it
abbrev pub IsMissingFile : List ℕ → List ℕ → PortableRecordingError → Type 0
IsMissingFile dir name (RequiredFileMissing d n) = (d ≡ dir) × (n ≡ name)
IsMissingFile dir name OutOfMemory = Unit {0}
IsMissingFile dir name e = ⊥

module _ {D : Type 0} (files : D → Option Files) (faults : D → ℕ) where
  -- why a directory isn't found
  abbrev pub LacksDirectory : D → List ℕ → PortableRecordingError → Type 0
  LacksDirectory disk dir (RunDirNotFound p) = (p ≡ dir) × IsNotThere (files disk) dir
  LacksDirectory disk dir (DiskFault p) = (p ≡ dir) × HasFailed faults disk
  LacksDirectory disk dir OutOfMemory = Unit {0}
  LacksDirectory disk dir e = ⊥

  -- why a file of it isn't found
  abbrev pub LacksOne : D → List ℕ → List ℕ → PortableRecordingError → Type 0
  LacksOne disk dir name (RequiredFileMissing d n) =
      (d ≡ dir) × (n ≡ name) × IsMissing (files disk) (joined dir name)
  LacksOne disk dir name (DiskFault p) = (p ≡ joined dir name) × HasFailed faults disk
  LacksOne disk dir name OutOfMemory = Unit {0}
  LacksOne disk dir name e = ⊥

  -- the first that a run lacks: its directory, its store, its log
  abbrev pub Unprepared : D → List ℕ → PortableRecordingError → Type 0
  Unprepared disk dir e =
      LacksDirectory disk dir e
      ⊎ (IsOpened (files disk) dir × LacksOne disk dir store_name e)
      ⊎ (IsOpened (files disk) dir × HasOne (files disk) (path_of_store dir)
      × LacksOne disk dir log_name e)

  -- a writer over the same disk, of a run that has its files
  pub record Prepares (lent : MutBor D) (info : RecordedRunInfo) (dir : List ℕ)
      (writer : Packing D) : Type 0 where
    pub reference : writer.disk.ghost_name ≡ lent.ghost_name
    pub same : files writer.disk.now ≡ files lent.now
    pub later : faults lent.now ≤ faults writer.disk.now
    pub run_info : writer.run_info ≡ info
    pub run_dir : writer.run_dir ≡ dir
    pub found : HasFiles (files lent.now) dir
