-- What is salvaged of the files of a run's directory, or why nothing is.
use Rattle.std.specs.Prelude.{◌≡◌, ◌⊎◌, ℕ, ◌≤◌, List, Option, Result, IfErr}
use Rattle.rec_container.specs.Causes.{Rose}
use Rattle.rec_disk.specs.Disks.{Files}
use Rattle.rec_format.specs.declared.run.RecordedRunInfo.{RecordedRunInfo}
use Rattle.rec_directory.specs.Files.{IsMissing, IsWhole}
use Rattle.rec_directory.specs.Paths.{path_of_log, path_of_store}
use Rattle.rec_salvage.specs.declared.errors.SalvageError.TheVariants.{
  BadMagic,
  MissingMeta,
  BadMeta,
  OpenArchive,
  OpenRunLog,
  DiskFault,
  OutOfMemory,
}
use Rattle.rec_salvage.specs.declared.errors.SalvageError.{SalvageError}
use Rattle.rec_salvage.specs.declared.salvaging.Salvaged.{Salvaged}
use Rattle.rec_salvage.specs.Refusals.{IsRefused}
use Rattle.rec_salvage.specs.Salvages.{Salvages}

-- ---- a disk's faults

-- a fault of the disk comes only where its count rose
abbrev pub IsCaused : ℕ → ℕ → SalvageError → Type 0
IsCaused before now BadMagic = Unit {0}
IsCaused before now (MissingMeta path) = Unit {0}
IsCaused before now (BadMeta path) = Unit {0}
IsCaused before now (OpenArchive path) = Unit {0}
IsCaused before now (OpenRunLog path) = Unit {0}
IsCaused before now (DiskFault path) = Rose before now
IsCaused before now OutOfMemory = Unit {0}

-- the count has not fallen, and a fault comes only by it
pub record HasCause {T : Type 0} (before now : ℕ) (result : Result T SalvageError) : Type 0 where
  pub later : before ≤ now
  pub failed : IfErr result (IsCaused before now)

-- ---- files

-- why the store wasn't read
abbrev pub StoreUnread : Option Files → List ℕ → SalvageError → Type 0
StoreUnread files dir BadMagic = ⊥
StoreUnread files dir (MissingMeta path) = ⊥
StoreUnread files dir (BadMeta path) = ⊥
StoreUnread files dir (OpenArchive path) = (path ≡ path_of_store dir) × IsMissing files path
StoreUnread files dir (OpenRunLog path) = ⊥
StoreUnread files dir (DiskFault path) = path ≡ path_of_store dir
StoreUnread files dir OutOfMemory = Unit {0}

-- why the log wasn't read
abbrev pub LogUnread : Option Files → List ℕ → SalvageError → Type 0
LogUnread files dir BadMagic = ⊥
LogUnread files dir (MissingMeta path) = ⊥
LogUnread files dir (BadMeta path) = ⊥
LogUnread files dir (OpenArchive path) = ⊥
LogUnread files dir (OpenRunLog path) = (path ≡ path_of_log dir) × IsMissing files path
LogUnread files dir (DiskFault path) = path ≡ path_of_log dir
LogUnread files dir OutOfMemory = Unit {0}

-- the store was read, and the log wasn't
abbrev pub OnlyLogUnread : Option Files → List ℕ → SalvageError → Type 0
OnlyLogUnread files dir e =
    (store : List ℕ) × IsWhole files (path_of_store dir) store × LogUnread files dir e

-- both were read, and the store is refused
abbrev pub StoreRefused : Option Files → List ℕ → SalvageError → Type 0
StoreRefused files dir e =
    (store : List ℕ) × (log : List ℕ) × IsWhole files (path_of_store dir) store
    × IsWhole files (path_of_log dir) log × IsRefused store e

-- why nothing is salvaged: of store, log and the store's contents the first that isn't there
abbrev pub IsRefusedIn : Option Files → List ℕ → SalvageError → Type 0
IsRefusedIn files dir e =
    StoreUnread files dir e ⊎ OnlyLogUnread files dir e ⊎ StoreRefused files dir e

-- both were read, and this is salvaged of them
pub record SalvagesIn (files : Option Files) (run : RecordedRunInfo) (dir : List ℕ)
    (s : Salvaged) : Type 0 where
  pub log : List ℕ
  pub store : List ℕ
  pub store_read : IsWhole files (path_of_store dir) store
  pub log_read : IsWhole files (path_of_log dir) log
  pub salvaged : Salvages run log store s
