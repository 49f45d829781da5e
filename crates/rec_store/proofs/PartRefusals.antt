-- What follows from the answer of a part.
use Rattle.std.proofs.Common.{ℕ, Result, Ok, Err, ap}
use Rattle.rec_container.specs.Reading.{◌>>=◌}
use Rattle.rec_store.specs.declared.read_error.RecordReadError.TheVariants.{
  RunNotFound,
  OpenArchive,
  ParseArchive,
  FileNotFound,
  FileTooLarge,
  NotUtf8,
  DeserializeMetadata,
  UnknownOutputType,
  ExtractFile,
  OpenRunLog,
  DiskFault,
  ReadRunLog,
  ParseEvent,
  OutOfMemory,
}
use Rattle.rec_store.specs.declared.read_error.RecordReadError.{RecordReadError}
use Rattle.rec_store.specs.Readers.{Refuses, Reads, Denies, Answers, IsDiskCaused}

-- a part that is refused gives nothing to the next step
pub refuses_next : {Y Z : Type 0} (part : Result Y RecordReadError)
    (next : Y → Result Z RecordReadError) (e : RecordReadError)
    → Refuses part e → Refuses (part >>= next) e
refuses_next part next (RunNotFound p) h = ap (λ r. r >>= next) h
refuses_next part next (OpenArchive p) h = absurd h
refuses_next part next (ParseArchive p f) h = absurd h
refuses_next part next (FileNotFound p) h = ap (λ r. r >>= next) h
refuses_next part next (FileTooLarge p n m) h = ap (λ r. r >>= next) h
refuses_next part next (NotUtf8 p) h = ap (λ r. r >>= next) h
refuses_next part next (DeserializeMetadata p) h = ap (λ r. r >>= next) h
refuses_next part next (UnknownOutputType p) h = ap (λ r. r >>= next) h
refuses_next part next (ExtractFile p) h = ap (λ r. r >>= next) h
refuses_next part next (OpenRunLog p) h = ap (λ r. r >>= next) h
refuses_next part next (DiskFault p) h = absurd h
refuses_next part next (ReadRunLog n) h = ap (λ r. r >>= next) h
refuses_next part next (ParseEvent n) h = ap (λ r. r >>= next) h
refuses_next part next OutOfMemory h = tt

-- a reader may answer what is answered over its entries
pub denies_part : {Y : Type 0} (part : Result Y RecordReadError) (e : RecordReadError)
    → Refuses part e → Denies part e
denies_part part (RunNotFound p) h = h
denies_part part (OpenArchive p) h = h
denies_part part (ParseArchive p f) h = h
denies_part part (FileNotFound p) h = h
denies_part part (FileTooLarge p n m) h = h
denies_part part (NotUtf8 p) h = h
denies_part part (DeserializeMetadata p) h = h
denies_part part (UnknownOutputType p) h = h
denies_part part (ExtractFile p) h = h
denies_part part (OpenRunLog p) h = h
denies_part part (DiskFault p) h = absurd h
denies_part part (ReadRunLog n) h = h
denies_part part (ParseEvent n) h = h
denies_part part OutOfMemory h = h

pub answers_part : {X Y : Type 0} (show : X → Y) (part : Result Y RecordReadError)
    (result : Result X RecordReadError)
    → Reads show part result → Answers show part result
answers_part show part (Ok x) h = h
answers_part show part (Err e) h = denies_part part e h

-- and it is no fault of a disk
pub not_by_disk : {Y : Type 0} (before now : ℕ) (part : Result Y RecordReadError)
    (e : RecordReadError)
    → Refuses part e → IsDiskCaused before now e
not_by_disk before now part (RunNotFound p) h = tt
not_by_disk before now part (OpenArchive p) h = tt
not_by_disk before now part (ParseArchive p f) h = tt
not_by_disk before now part (FileNotFound p) h = tt
not_by_disk before now part (FileTooLarge p n m) h = tt
not_by_disk before now part (NotUtf8 p) h = tt
not_by_disk before now part (DeserializeMetadata p) h = tt
not_by_disk before now part (UnknownOutputType p) h = tt
not_by_disk before now part (ExtractFile p) h = tt
not_by_disk before now part (OpenRunLog p) h = tt
not_by_disk before now part (DiskFault p) h = absurd h
not_by_disk before now part (ReadRunLog n) h = tt
not_by_disk before now part (ParseEvent n) h = tt
not_by_disk before now part OutOfMemory h = tt
