-- A store that is read once and kept, and what its reader answers.
use Rattle.std.proofs.Common.{ℕ, List, Option, Result, Ok, Err, refl, ap, subst, ◌∙◌}
use Rattle.std.specs.Prelude.{IfErr}
use Rattle.rec_container.proofs.Unique.{one_reading_spec, no_fault, one_fault}
use Rattle.rec_container.specs.Container.{Entry, IsContainer}
use Rattle.rec_container.specs.declared.errors.ContainerError.{ContainerError}
use Rattle.rec_container.specs.Reading.{IsFault}
use Rattle.rec_store.specs.declared.read_error.RecordReadError.TheVariants.{
  RunNotFound,
  OpenArchive,
  ParseArchive,
  FileNotFound,
  FileTooLarge,
  NotUtf8,
  DeserializeMetadata,
  UnknownOutputType,
  ExtractFile,
  OpenRunLog,
  DiskFault,
  ReadRunLog,
  ParseEvent,
  OutOfMemory,
}
use Rattle.rec_store.specs.declared.read_error.RecordReadError.{RecordReadError}
use Rattle.rec_store.specs.Readers.{IsNoDiskFault, Reads, Refuses}
use Rattle.rec_directory.specs.Directories.{IsOfBytes, IsRefusedBy}
use Rattle.rec_directory.specs.Directories.{JudgesBytes, LeavesSink, Unparsed}

-- ---- bytes that are parsed

-- a store that is no container has no part
unparsed_refuses : {Y : Type 0} (part : Result Y RecordReadError) (path bytes : List ℕ)
    (es : List Entry) (e : RecordReadError)
    → IsContainer bytes es → Unparsed path bytes e → Refuses part e
unparsed_refuses part path bytes es (RunNotFound p) g h = absurd h
unparsed_refuses part path bytes es (OpenArchive p) g h = absurd h
unparsed_refuses part path bytes es (ParseArchive p f) g h = absurd (no_fault bytes es f g h.1)
unparsed_refuses part path bytes es (FileNotFound p) g h = absurd h
unparsed_refuses part path bytes es (FileTooLarge p n m) g h = absurd h
unparsed_refuses part path bytes es (NotUtf8 p) g h = absurd h
unparsed_refuses part path bytes es (DeserializeMetadata p) g h = absurd h
unparsed_refuses part path bytes es (UnknownOutputType p) g h = absurd h
unparsed_refuses part path bytes es (ExtractFile p) g h = absurd h
unparsed_refuses part path bytes es (OpenRunLog p) g h = absurd h
unparsed_refuses part path bytes es (DiskFault p) g h = absurd h
unparsed_refuses part path bytes es (ReadRunLog n) g h = absurd h
unparsed_refuses part path bytes es (ParseEvent n) g h = absurd h
unparsed_refuses part path bytes es OutOfMemory g h = tt

unparsed_of_bytes : (path bytes : List ℕ) (e : RecordReadError) → Unparsed path bytes e
    → IsOfBytes path bytes e
unparsed_of_bytes path bytes (RunNotFound p) h = absurd h
unparsed_of_bytes path bytes (OpenArchive p) h = absurd h
unparsed_of_bytes path bytes (ParseArchive p f) h = h
unparsed_of_bytes path bytes (FileNotFound p) h = absurd h
unparsed_of_bytes path bytes (FileTooLarge p n m) h = absurd h
unparsed_of_bytes path bytes (NotUtf8 p) h = absurd h
unparsed_of_bytes path bytes (DeserializeMetadata p) h = absurd h
unparsed_of_bytes path bytes (UnknownOutputType p) h = absurd h
unparsed_of_bytes path bytes (ExtractFile p) h = absurd h
unparsed_of_bytes path bytes (OpenRunLog p) h = absurd h
unparsed_of_bytes path bytes (DiskFault p) h = absurd h
unparsed_of_bytes path bytes (ReadRunLog n) h = absurd h
unparsed_of_bytes path bytes (ParseEvent n) h = absurd h
unparsed_of_bytes path bytes OutOfMemory h = tt

unparsed_is_fault : (X : Type 0) (path bytes : List ℕ) (e : RecordReadError)
    (fault : ContainerError)
    → Unparsed path bytes e → IsFault bytes fault
    → IsRefusedBy {X = X} (ParseArchive path fault) (Err e)
unparsed_is_fault X path bytes (RunNotFound p) fault h g = absurd h
unparsed_is_fault X path bytes (OpenArchive p) fault h g = absurd h
unparsed_is_fault X path bytes (ParseArchive p f) fault h g =
    ap (λ q. ParseArchive q f) h.0 ∙ ap (ParseArchive path) (one_fault bytes f fault h.1 g)
unparsed_is_fault X path bytes (FileNotFound p) fault h g = absurd h
unparsed_is_fault X path bytes (FileTooLarge p n m) fault h g = absurd h
unparsed_is_fault X path bytes (NotUtf8 p) fault h g = absurd h
unparsed_is_fault X path bytes (DeserializeMetadata p) fault h g = absurd h
unparsed_is_fault X path bytes (UnknownOutputType p) fault h g = absurd h
unparsed_is_fault X path bytes (ExtractFile p) fault h g = absurd h
unparsed_is_fault X path bytes (OpenRunLog p) fault h g = absurd h
unparsed_is_fault X path bytes (DiskFault p) fault h g = absurd h
unparsed_is_fault X path bytes (ReadRunLog n) fault h g = absurd h
unparsed_is_fault X path bytes (ParseEvent n) fault h g = absurd h
unparsed_is_fault X path bytes OutOfMemory fault h g = tt

unparsed_no_disk : (path bytes : List ℕ) (e : RecordReadError) → Unparsed path bytes e
    → IsNoDiskFault e
unparsed_no_disk path bytes (RunNotFound p) h = tt
unparsed_no_disk path bytes (OpenArchive p) h = tt
unparsed_no_disk path bytes (ParseArchive p f) h = tt
unparsed_no_disk path bytes (FileNotFound p) h = tt
unparsed_no_disk path bytes (FileTooLarge p n m) h = tt
unparsed_no_disk path bytes (NotUtf8 p) h = tt
unparsed_no_disk path bytes (DeserializeMetadata p) h = tt
unparsed_no_disk path bytes (UnknownOutputType p) h = tt
unparsed_no_disk path bytes (ExtractFile p) h = tt
unparsed_no_disk path bytes (OpenRunLog p) h = tt
unparsed_no_disk path bytes (DiskFault p) h = absurd h
unparsed_no_disk path bytes (ReadRunLog n) h = tt
unparsed_no_disk path bytes (ParseEvent n) h = tt
unparsed_no_disk path bytes OutOfMemory h = tt

unparsed_leaves : (path bytes : List ℕ) (before : Option (List ℕ)) (e : RecordReadError)
    → Unparsed path bytes e → LeavesSink before before e
unparsed_leaves path bytes before (RunNotFound p) h = refl
unparsed_leaves path bytes before (OpenArchive p) h = refl
unparsed_leaves path bytes before (ParseArchive p f) h = refl
unparsed_leaves path bytes before (FileNotFound p) h = refl
unparsed_leaves path bytes before (FileTooLarge p n m) h = refl
unparsed_leaves path bytes before (NotUtf8 p) h = refl
unparsed_leaves path bytes before (DeserializeMetadata p) h = refl
unparsed_leaves path bytes before (UnknownOutputType p) h = refl
unparsed_leaves path bytes before (ExtractFile p) h = tt
unparsed_leaves path bytes before (OpenRunLog p) h = refl
unparsed_leaves path bytes before (DiskFault p) h = refl
unparsed_leaves path bytes before (ReadRunLog n) h = refl
unparsed_leaves path bytes before (ParseEvent n) h = refl
unparsed_leaves path bytes before OutOfMemory h = refl

-- what a container's part refuses says nothing of its bytes
refused_of_bytes : {Y : Type 0} (part : Result Y RecordReadError) (path bytes : List ℕ)
    (e : RecordReadError)
    → Refuses part e → IsOfBytes path bytes e
refused_of_bytes part path bytes (RunNotFound p) h = tt
refused_of_bytes part path bytes (OpenArchive p) h = absurd h
refused_of_bytes part path bytes (ParseArchive p f) h = absurd h
refused_of_bytes part path bytes (FileNotFound p) h = tt
refused_of_bytes part path bytes (FileTooLarge p n m) h = tt
refused_of_bytes part path bytes (NotUtf8 p) h = tt
refused_of_bytes part path bytes (DeserializeMetadata p) h = tt
refused_of_bytes part path bytes (UnknownOutputType p) h = tt
refused_of_bytes part path bytes (ExtractFile p) h = tt
refused_of_bytes part path bytes (OpenRunLog p) h = tt
refused_of_bytes part path bytes (DiskFault p) h = absurd h
refused_of_bytes part path bytes (ReadRunLog n) h = tt
refused_of_bytes part path bytes (ParseEvent n) h = tt
refused_of_bytes part path bytes OutOfMemory h = tt

of_bytes_no_disk : (path bytes : List ℕ) (e : RecordReadError) → IsOfBytes path bytes e
    → IsNoDiskFault e
of_bytes_no_disk path bytes (RunNotFound p) h = tt
of_bytes_no_disk path bytes (OpenArchive p) h = tt
of_bytes_no_disk path bytes (ParseArchive p f) h = tt
of_bytes_no_disk path bytes (FileNotFound p) h = tt
of_bytes_no_disk path bytes (FileTooLarge p n m) h = tt
of_bytes_no_disk path bytes (NotUtf8 p) h = tt
of_bytes_no_disk path bytes (DeserializeMetadata p) h = tt
of_bytes_no_disk path bytes (UnknownOutputType p) h = tt
of_bytes_no_disk path bytes (ExtractFile p) h = tt
of_bytes_no_disk path bytes (OpenRunLog p) h = tt
of_bytes_no_disk path bytes (DiskFault p) h = absurd h
of_bytes_no_disk path bytes (ReadRunLog n) h = tt
of_bytes_no_disk path bytes (ParseEvent n) h = tt
of_bytes_no_disk path bytes OutOfMemory h = tt

module _ (path bytes : List ℕ) where
  -- the bytes are those of a container
  pub container_answers : {X Y : Type 0} (show : X → Y)
      (part : List Entry → Result Y RecordReadError) (entries : List Entry)
      (r : Result X RecordReadError)
      → IsContainer bytes entries → Reads show (part entries) r → (es : List Entry)
      → IsContainer bytes es → Reads show (part es) r
  container_answers show part entries r h reads es g =
      subst (λ (fs : List Entry). Reads show (part fs) r) (one_reading_spec bytes entries es h g)
      reads

  container_judges : {X : Type 0} (entries : List Entry) (r : Result X RecordReadError)
      → IsContainer bytes entries → IfErr r (IsOfBytes path bytes) → JudgesBytes path bytes r
  container_judges entries r h error =
      record { error = error; fault = λ fault g. absurd (no_fault bytes entries fault h g) }

  part_of_bytes : {X Y : Type 0} (show : X → Y) (part : Result Y RecordReadError)
      (r : Result X RecordReadError)
      → Reads show part r → IfErr r (IsOfBytes path bytes)
  part_of_bytes show part (Ok x) h = tt
  part_of_bytes show part (Err e) h = refused_of_bytes part path bytes e h

  pub part_judges : {X Y : Type 0} (show : X → Y) (part : Result Y RecordReadError)
      (entries : List Entry) (r : Result X RecordReadError)
      → IsContainer bytes entries → Reads show part r → JudgesBytes path bytes r
  part_judges show part entries r h reads =
      container_judges entries r h (part_of_bytes show part r reads)

  -- a judgement of bytes says nothing of a disk
  pub judges_no_disk : {X : Type 0} (r : Result X RecordReadError) → JudgesBytes path bytes r
      → IfErr r IsNoDiskFault
  judges_no_disk (Ok x) h = tt
  judges_no_disk (Err e) h = of_bytes_no_disk path bytes e h.error

  -- they are those of none
  pub unparsed_answers : {X Y : Type 0} (show : X → Y)
      (part : List Entry → Result Y RecordReadError) (e : RecordReadError)
      → Unparsed path bytes e
      → (es : List Entry) → IsContainer bytes es → Reads show (part es) (Err e)
  unparsed_answers show part e h es g = unparsed_refuses (part es) path bytes es e g h

  pub unparsed_judges : {X : Type 0} (e : RecordReadError) → Unparsed path bytes e
      → JudgesBytes {X = X} path bytes (Err e)
  unparsed_judges {X} e h = record {
    error = unparsed_of_bytes path bytes e h;
    fault = λ fault g. unparsed_is_fault X path bytes e fault h g;
  }
