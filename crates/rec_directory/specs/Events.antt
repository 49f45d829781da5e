-- The events of a log on a disk.
use Rattle.std.specs.Borrow.{MutBor}
use Rattle.std.specs.Prelude.{◌≡◌, ℕ, ◌+◌, ◌≤◌, List, [], length}
use Rattle.std.specs.Prelude.{Option, Some, None, Result, Ok, Err, ◌⊎◌}
use Rattle.serde_json.specs.Data.{Data}
use Rattle.rec_container.specs.Causes.{Rose}
use Rattle.rec_disk.specs.declared.disk.DiskError.TheVariants as disk
use Rattle.rec_disk.specs.declared.disk.DiskError.{DiskError}
use Rattle.rec_disk.specs.Disks.{Files}
use Rattle.rec_codec.specs.declared.line_events.LineError.TheVariants as line
use Rattle.rec_codec.specs.declared.line_events.LineError.{LineError}
use Rattle.rec_codec.specs.LineItems.{GivesNext}
use Rattle.rec_codec.specs.Lines.{NumberedLine, lines, numbered}
use Rattle.rec_store.specs.declared.read_error.RecordReadError.TheVariants.{
  OpenRunLog,
  DiskFault,
  ReadRunLog,
  ParseEvent,
  OutOfMemory,
}
use Rattle.rec_store.specs.declared.read_error.RecordReadError.{RecordReadError}
use Rattle.rec_directory.specs.declared.log.LogPlace.{LogPlace}
use Rattle.rec_directory.specs.Directories.{Directory, HasFailed}
use Rattle.rec_directory.specs.Files.{IsMissing, IsPrefix}
use Rattle.rec_directory.specs.Logs.{IsPlace, left_at}
use Rattle.rec_directory.specs.Paths.{path_of_log}

-- ---- errors

abbrev pub error_of_line : LineError → RecordReadError
error_of_line (line.ReadRunLog n) = ReadRunLog n
error_of_line (line.ParseEvent n) = ParseEvent n
error_of_line line.OutOfMemory = OutOfMemory

abbrev pub log_error : List ℕ → DiskError → RecordReadError
log_error path disk.Missing = OpenRunLog path
log_error path disk.DiskFailed = DiskFault path
log_error path disk.OutOfMemory = OutOfMemory

-- why a log wasn't read
abbrev pub LogFault : ℕ → ℕ → Option Files → List ℕ → RecordReadError → Type 0
LogFault before now files path (OpenRunLog p) = (p ≡ path) × IsMissing files path
LogFault before now files path (DiskFault p) = (p ≡ path) × Rose before now
LogFault before now files path OutOfMemory = Unit {0}
LogFault before now files path e = ⊥

-- ---- lines

-- an item of a log's lines, with the errors of a reader
abbrev pub lifted_result : {T : Type 0} → Result T LineError → Result T RecordReadError
lifted_result (Ok x) = Ok x
lifted_result (Err e) = Err (error_of_line e)

abbrev pub lifted : {T : Type 0} → Option (Result T LineError) → Option (Result T RecordReadError)
lifted None = None
lifted (Some r) = Some (lifted_result r)

-- the lines that are left of a log that was read
abbrev pub left_of : Option (List ℕ) → LogPlace → Option (List NumberedLine)
left_of None p = None
left_of (Some bytes) p = Some (left_at bytes p)

-- the place stands in the log that was read
abbrev pub IsPlaced : Option (List ℕ) → LogPlace → Type 0
IsPlaced None p = Unit {0}
IsPlaced (Some bytes) p = IsPlace bytes p

-- how many items are left at most
abbrev pub most_of : ℕ → Option (List NumberedLine) → ℕ
most_of len None = len + 1
most_of len (Some ls) = length ls

-- the lines give the item that they give in memory
abbrev pub GivesLifted : {T : Type 0} → (Data → Option T) → List NumberedLine
    → Option (Result T RecordReadError) → List NumberedLine → Type 0
GivesLifted {T} form ls item left =
    (found : Option (Result T LineError)) × GivesNext form ls found left × (item ≡ lifted found)

-- ---- the log

-- what was read of the log, up to a length
pub record ReadsLog (files : Option Files) (path : List ℕ) (len : ℕ) (bytes : List ℕ) : Type 0 where
  pub prefix : IsPrefix files path len bytes
  pub within : length bytes ≤ len

-- the disk, the log's path, the length that it had, and the lines that are left, once it was read
pub record EventReading (D : Type 0) : Type 0 where
  pub disk : MutBor D
  pub path : List ℕ
  pub len : ℕ
  pub left : Option (List NumberedLine)

module _ {D T : Type 0} (files : D → Option Files) (faults : D → ℕ) (form : Data → Option T) where
  -- the log wasn't read, and nothing is left
  abbrev pub GivesFault : D → D → List ℕ → Option (Result T RecordReadError)
      → Option (List NumberedLine) → Type 0
  GivesFault before now path item left =
      (e : RecordReadError) × (item ≡ Some (Err e))
      × LogFault (faults before) (faults now) (files before) path e × (left ≡ Some [])

  -- the lines that are left give the next item, and the disk isn't asked;
  -- before that the log is read
  abbrev pub Gives : D → D → List ℕ → ℕ → Option (List NumberedLine)
      → Option (Result T RecordReadError) → Option (List NumberedLine) → Type 0
  Gives before now path len (Some ls) item left =
      (rest : List NumberedLine) × GivesLifted form ls item rest × (left ≡ Some rest)
      × (now ≡ before)
  Gives before now path len None item left =
      GivesFault before now path item left
      ⊎ ((bytes : List ℕ) × (rest : List NumberedLine) × ReadsLog (files before) path len bytes
      × GivesLifted form (numbered 1 (lines bytes)) item rest × (left ≡ Some rest))

  pub record GivesEvent (old : EventReading D) (item : Option (Result T RecordReadError))
      (new : EventReading D) : Type 0 where
    pub path : new.path ≡ old.path
    pub len : new.len ≡ old.len
    pub reference : new.disk.ghost_name ≡ old.disk.ghost_name
    pub same : files new.disk.now ≡ files old.disk.now
    pub later : faults old.disk.now ≤ faults new.disk.now
    pub gives : Gives old.disk.now new.disk.now old.path old.len old.left item new.left

-- ---- opening it

-- a file's length, where the disk says its files
abbrev pub IsLengthOf : Option (List ℕ) → ℕ → Type 0
IsLengthOf None len = ⊥
IsLengthOf (Some bytes) len = len ≡ length bytes

abbrev pub HasLength : Option Files → List ℕ → ℕ → Type 0
HasLength None path len = Unit {0}
HasLength (Some fs) path len = IsLengthOf (fs path) len

module _ {D : Type 0} (files : D → Option Files) (faults : D → ℕ) where
  -- the events of a log, of which nothing was read
  pub record OpensLog (reader : Directory D) (events : EventReading D) : Type 0 where
    pub same : files events.disk.now ≡ files reader.disk.now
    pub later : faults reader.disk.now ≤ faults events.disk.now
    pub path : events.path ≡ path_of_log reader.run_dir
    pub len : HasLength (files reader.disk.now) (path_of_log reader.run_dir) events.len
    pub unread : events.left ≡ None

  -- why a log wasn't opened
  abbrev pub UnopenedLog : D → List ℕ → RecordReadError → Type 0
  UnopenedLog disk path (OpenRunLog p) = (p ≡ path) × IsMissing (files disk) path
  UnopenedLog disk path (DiskFault p) = (p ≡ path) × HasFailed faults disk
  UnopenedLog disk path OutOfMemory = Unit {0}
  UnopenedLog disk path e = ⊥
