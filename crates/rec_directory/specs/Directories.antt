-- A run's directory, as contracts see its reader.
use Rattle.std.specs.Borrow.{MutBor}
use Rattle.std.specs.Prelude.{◌≡◌, ℕ, ◌≤◌, List, Option, Some, None, Result, Ok, Err, IfErr}
use Rattle.rec_container.specs.Causes.{Rose}
use Rattle.rec_container.specs.Container.{Entry, IsContainer}
use Rattle.rec_container.specs.declared.errors.ContainerError.TheVariants as faults
use Rattle.rec_container.specs.declared.errors.ContainerError.{ContainerError}
use Rattle.rec_container.specs.Reading.{IsFault}
use Rattle.rec_disk.specs.Disks.{Files, IsThere}
use Rattle.rec_store.specs.declared.read_error.RecordReadError.TheVariants.{
  RunNotFound,
  OpenArchive,
  ParseArchive,
  ExtractFile,
  DiskFault,
  OutOfMemory,
}
use Rattle.rec_store.specs.declared.read_error.RecordReadError.{RecordReadError}
use Rattle.rec_directory.specs.Files.{IsMissing, IsWhole}
use Rattle.rec_directory.specs.Paths.{path_of_store}

-- the disk, the run's directory, the most bytes of an entry that is read,
-- and the store's bytes, once they were read
pub record Directory (D : Type 0) : Type 0 where
  pub disk : MutBor D
  pub run_dir : List ℕ
  pub limit : ℕ
  pub store : Option (List ℕ)

-- ---- the store's entries

-- the bytes that are kept, or else those of the file
abbrev pub kept_or : Option (List ℕ) → Option (List ℕ) → Option (List ℕ)
kept_or None file = file
kept_or (Some bytes) file = Some bytes

-- bytes that are there spell these entries
abbrev pub Spells : Option (List ℕ) → List Entry → Type 0
Spells None es = ⊥
Spells (Some bytes) es = IsContainer bytes es

-- the store has these entries, where the disk says its files
abbrev pub HasEntries : Option Files → List ℕ → Option (List ℕ) → List Entry → Type 0
HasEntries None path kept es = ⊥
HasEntries (Some fs) path kept es = Spells (kept_or kept (fs path)) es

-- ---- reading it

-- why a store wasn't read
abbrev pub Unread : Option Files → List ℕ → RecordReadError → Type 0
Unread files path (OpenArchive p) = (p ≡ path) × IsMissing files path
Unread files path (DiskFault p) = p ≡ path
Unread files path OutOfMemory = Unit {0}
Unread files path e = ⊥

-- of a store that was read: it is said to be no container only with a fault of its bytes, and
-- nothing is said of a disk
abbrev pub IsOfBytes : List ℕ → List ℕ → RecordReadError → Type 0
IsOfBytes path bytes (ParseArchive p fault) = (p ≡ path) × IsFault bytes fault
IsOfBytes path bytes (OpenArchive p) = ⊥
IsOfBytes path bytes (DiskFault p) = ⊥
IsOfBytes path bytes e = Unit {0}

-- a fault of the bytes is the answer, but for want of memory
abbrev pub IsRefusedBy : {X : Type 0} → RecordReadError → Result X RecordReadError → Type 0
IsRefusedBy refusal (Ok x) = ⊥
IsRefusedBy refusal (Err OutOfMemory) = Unit {0}
IsRefusedBy refusal (Err e) = e ≡ refusal

-- the bytes of a store are judged before its parts
pub record JudgesBytes {X : Type 0} (path bytes : List ℕ)
    (result : Result X RecordReadError) : Type 0 where
  pub error : IfErr result (IsOfBytes path bytes)
  pub fault : (fault : ContainerError) → IsFault bytes fault
      → IsRefusedBy (ParseArchive path fault) result

-- a store that wasn't read has no part
abbrev pub IsRefused : {X : Type 0} → Option Files → List ℕ → Result X RecordReadError → Type 0
IsRefused files path (Ok x) = ⊥
IsRefused files path (Err e) = Unread files path e

-- a call answers of the store as it is kept then: it wasn't read, or its bytes are judged
abbrev pub JudgesStore : {X : Type 0} → Option Files → List ℕ → Option (List ℕ)
    → Result X RecordReadError → Type 0
JudgesStore files path None result = IsRefused files path result
JudgesStore files path (Some bytes) result = JudgesBytes path bytes result

-- why bytes are no container
abbrev pub Unparsed : List ℕ → List ℕ → RecordReadError → Type 0
Unparsed path bytes (ParseArchive p fault) = (p ≡ path) × IsFault bytes fault
Unparsed path bytes OutOfMemory = Unit {0}
Unparsed path bytes e = ⊥

abbrev pub archive_error : List ℕ → ContainerError → RecordReadError
archive_error path faults.OutOfMemory = OutOfMemory
archive_error path fault = ParseArchive path fault

-- only a sink that failed has taken anything
abbrev pub LeavesSink : Option (List ℕ) → Option (List ℕ) → RecordReadError → Type 0
LeavesSink before now (ExtractFile path) = Unit {0}
LeavesSink before now e = now ≡ before

module _ {D : Type 0} (files : D → Option Files) where
  -- the entries of a reader's store
  abbrev pub Holds : Directory D → List Entry → Type 0
  Holds r es = HasEntries (files r.disk.now) (path_of_store r.run_dir) r.store es

  -- a store that is kept stays, and the disk isn't asked; one that isn't is read whole,
  -- or is still not kept
  abbrev pub ReadsOnce : Directory D → Directory D → Option (List ℕ) → Option (List ℕ) → Type 0
  ReadsOnce old new (Some bytes) now = new ≡ old
  ReadsOnce old new None None = Unit {0}
  ReadsOnce old new None (Some bytes) =
      IsWhole (files old.disk.now) (path_of_store old.run_dir) bytes

  -- what a call that reads the store leaves
  pub record KeepsRun (old new : Directory D) : Type 0 where
    pub reference : new.disk.ghost_name ≡ old.disk.ghost_name
    pub same : files new.disk.now ≡ files old.disk.now
    pub run_dir : new.run_dir ≡ old.run_dir
    pub limit : new.limit ≡ old.limit
    pub store : ReadsOnce old new old.store new.store

  -- what a call leaves that only asks the disk
  pub record Stays (old new : Directory D) : Type 0 where
    pub reference : new.disk.ghost_name ≡ old.disk.ghost_name
    pub same : files new.disk.now ≡ files old.disk.now
    pub run_dir : new.run_dir ≡ old.run_dir
    pub limit : new.limit ≡ old.limit
    pub store : new.store ≡ old.store

-- ---- opening it

-- the directory is there, where the disk says its files
abbrev pub IsOpened : Option Files → List ℕ → Type 0
IsOpened None path = Unit {0}
IsOpened (Some fs) path = IsThere fs path

abbrev pub IsNotThere : Option Files → List ℕ → Type 0
IsNotThere None path = Unit {0}
IsNotThere (Some fs) path = ¬ IsThere fs path

-- the disk came to fail: its count had risen
abbrev pub HasFailed : {D : Type 0} → (D → ℕ) → D → Type 0
HasFailed {D} faults before = (last : D) × Rose (faults before) (faults last)

module _ {D : Type 0} (files : D → Option Files) (faults : D → ℕ) where
  -- a reader over the same disk, which has read nothing
  pub record Opens (lent : MutBor D) (path : List ℕ) (read_limit : ℕ)
      (reader : Directory D) : Type 0 where
    pub reference : reader.disk.ghost_name ≡ lent.ghost_name
    pub same : files reader.disk.now ≡ files lent.now
    pub later : faults lent.now ≤ faults reader.disk.now
    pub there : IsOpened (files lent.now) path
    pub run_dir : reader.run_dir ≡ path
    pub limit : reader.limit ≡ read_limit
    pub store : reader.store ≡ None

  -- why a run wasn't opened
  abbrev pub Unopened : D → List ℕ → RecordReadError → Type 0
  Unopened disk path (RunNotFound p) = (p ≡ path) × IsNotThere (files disk) path
  Unopened disk path (DiskFault p) = (p ≡ path) × HasFailed faults disk
  Unopened disk path OutOfMemory = Unit {0}
  Unopened disk path e = ⊥
