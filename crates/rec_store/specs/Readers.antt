-- What a reader of a store answers, and what its calls leave.
use Rattle.std.specs.Io.KnownBytes.{Appends}
use Rattle.std.specs.Prelude.{◌≡◌, ◌↔◌, ℕ, ◌≤◌, List, length, Option}
use Rattle.std.specs.Prelude.{Some, None, Result, Ok, Err, IfErr}
use Rattle.rec_container.specs.Causes.{Rose}
use Rattle.rec_container.specs.Container.{Entry, content_of}
use Rattle.rec_container.specs.Taking.{TookPart}
use Rattle.rec_store.specs.declared.read_error.RecordReadError.TheVariants.{
  OpenArchive,
  ParseArchive,
  FileNotFound,
  ExtractFile,
  DiskFault,
  OutOfMemory,
}
use Rattle.rec_store.specs.declared.read_error.RecordReadError.{RecordReadError}

-- why a part of entries at hand isn't read: it is refused so, or memory ran out, which is free
abbrev pub Refuses : {Y : Type 0} → Result Y RecordReadError → RecordReadError → Type 0
Refuses part OutOfMemory = Unit {0}
Refuses part (DiskFault path) = ⊥
Refuses part (OpenArchive path) = ⊥
Refuses part (ParseArchive path fault) = ⊥
Refuses part e = part ≡ Err e

-- a call over entries at hand answers the part, as `show` sees the answer
abbrev pub Reads : {X Y : Type 0} → (X → Y) → Result Y RecordReadError → Result X RecordReadError
    → Type 0
Reads show part (Ok x) = part ≡ Ok (show x)
Reads show part (Err e) = Refuses part e

-- of a reader also a fault of its disk, whose cause is the count
abbrev pub Denies : {Y : Type 0} → Result Y RecordReadError → RecordReadError → Type 0
Denies part (DiskFault path) = Unit {0}
Denies part e = Refuses part e

-- a call of a reader answers the part
abbrev pub Answers : {X Y : Type 0} → (X → Y) → Result Y RecordReadError → Result X RecordReadError
    → Type 0
Answers show part (Ok x) = part ≡ Ok (show x)
Answers show part (Err e) = Denies part e

-- limit and entries stay
pub record Keeps (limit_old limit_new : ℕ) (old new : List Entry → Type 0) : Type 0 where
  pub limit : limit_new ≡ limit_old
  pub entries : (es : List Entry) → old es ↔ new es

-- a fault of the disk comes only where the count rose
abbrev pub IsDiskCaused : ℕ → ℕ → RecordReadError → Type 0
IsDiskCaused before now (DiskFault path) = Rose before now
IsDiskCaused before now e = Unit {0}

pub record DiskCause {T : Type 0} (before now : ℕ)
    (result : Result T RecordReadError) : Type 0 where
  pub later : before ≤ now
  pub failed : IfErr result (IsDiskCaused before now)

-- a fault of the sink comes only where its count rose
abbrev pub IsSinkCaused : ℕ → ℕ → RecordReadError → Type 0
IsSinkCaused before now (ExtractFile path) = Rose before now
IsSinkCaused before now e = Unit {0}

pub record SinkCause {T : Type 0} (before now : ℕ)
    (result : Result T RecordReadError) : Type 0 where
  pub later : before ≤ now
  pub failed : IfErr result (IsSinkCaused before now)

-- the sink took the content whole, without a limit; or a proper prefix of it, or nothing
abbrev pub ExtractsContent : Option (List ℕ) → Option (List ℕ) → List ℕ → Option (List ℕ)
    → Result ℕ RecordReadError → Type 0
ExtractsContent before now path None (Ok n) = ⊥
ExtractsContent before now path (Some content) (Ok n) =
    (n ≡ length content) × Appends before now content
ExtractsContent before now path None (Err (ExtractFile p)) = ⊥
ExtractsContent before now path (Some content) (Err (ExtractFile p)) =
    (p ≡ path) × TookPart before now content
ExtractsContent before now path found (Err (FileNotFound p)) =
    (p ≡ path) × (found ≡ None) × (now ≡ before)
ExtractsContent before now path found (Err OutOfMemory) = now ≡ before
ExtractsContent before now path found (Err (DiskFault p)) = now ≡ before
ExtractsContent before now path found (Err e) = ⊥

-- the entry of a path was extracted into a sink, or why not
abbrev pub Extracts : Option (List ℕ) → Option (List ℕ) → List ℕ → List Entry
    → Result ℕ RecordReadError → Type 0
Extracts before now path es result = ExtractsContent before now path (content_of es path) result

-- no fault of a disk
abbrev pub IsNoDiskFault : RecordReadError → Type 0
IsNoDiskFault (DiskFault path) = ⊥
IsNoDiskFault e = Unit {0}

abbrev pub NoDiskFault : {T : Type 0} → Result T RecordReadError → Type 0
NoDiskFault result = IfErr result IsNoDiskFault
