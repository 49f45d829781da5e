-- What a sink took of an entry.
use Rattle.std.proofs.Common.{◌≡◌, ℕ, List, Option, Some, None, Result, Ok, Err, refl, sym, subst}
use Rattle.std.specs.Prelude.{IfErr}
use Rattle.rec_container.proofs.Unique.{one_reading_spec, no_fault}
use Rattle.rec_container.specs.Container.{Entry, IsContainer, content_of}
use Rattle.rec_store.specs.declared.read_error.RecordReadError.TheVariants.{
  RunNotFound,
  OpenArchive,
  ParseArchive,
  FileNotFound,
  FileTooLarge,
  NotUtf8,
  DeserializeMetadata,
  UnknownOutputType,
  ExtractFile,
  OpenRunLog,
  DiskFault,
  ReadRunLog,
  ParseEvent,
  OutOfMemory,
}
use Rattle.rec_store.specs.declared.read_error.RecordReadError.{RecordReadError}
use Rattle.rec_store.specs.Readers.{Extracts, ExtractsContent, IsNoDiskFault}
use Rattle.rec_directory.specs.Directories.{IsOfBytes, JudgesBytes, LeavesSink, Unparsed}

extracted_of_bytes : (path bytes : List ℕ) (before now : Option (List ℕ)) (name : List ℕ)
    (found : Option (List ℕ)) (e : RecordReadError)
    → ExtractsContent before now name found (Err e) → IsNoDiskFault e → IsOfBytes path bytes e
extracted_of_bytes path bytes before now name None (RunNotFound p) h g = tt
extracted_of_bytes path bytes before now name (Some content) (RunNotFound p) h g = tt
extracted_of_bytes path bytes before now name None (OpenArchive p) h g = absurd h
extracted_of_bytes path bytes before now name (Some content) (OpenArchive p) h g = absurd h
extracted_of_bytes path bytes before now name None (ParseArchive p f) h g = absurd h
extracted_of_bytes path bytes before now name (Some content) (ParseArchive p f) h g = absurd h
extracted_of_bytes path bytes before now name None (FileNotFound p) h g = tt
extracted_of_bytes path bytes before now name (Some content) (FileNotFound p) h g = tt
extracted_of_bytes path bytes before now name None (FileTooLarge p n m) h g = tt
extracted_of_bytes path bytes before now name (Some content) (FileTooLarge p n m) h g = tt
extracted_of_bytes path bytes before now name None (NotUtf8 p) h g = tt
extracted_of_bytes path bytes before now name (Some content) (NotUtf8 p) h g = tt
extracted_of_bytes path bytes before now name None (DeserializeMetadata p) h g = tt
extracted_of_bytes path bytes before now name (Some content) (DeserializeMetadata p) h g = tt
extracted_of_bytes path bytes before now name None (UnknownOutputType p) h g = tt
extracted_of_bytes path bytes before now name (Some content) (UnknownOutputType p) h g = tt
extracted_of_bytes path bytes before now name None (ExtractFile p) h g = tt
extracted_of_bytes path bytes before now name (Some content) (ExtractFile p) h g = tt
extracted_of_bytes path bytes before now name None (OpenRunLog p) h g = tt
extracted_of_bytes path bytes before now name (Some content) (OpenRunLog p) h g = tt
extracted_of_bytes path bytes before now name None (DiskFault p) h g = absurd g
extracted_of_bytes path bytes before now name (Some content) (DiskFault p) h g = absurd g
extracted_of_bytes path bytes before now name None (ReadRunLog n) h g = tt
extracted_of_bytes path bytes before now name (Some content) (ReadRunLog n) h g = tt
extracted_of_bytes path bytes before now name None (ParseEvent n) h g = tt
extracted_of_bytes path bytes before now name (Some content) (ParseEvent n) h g = tt
extracted_of_bytes path bytes before now name None OutOfMemory h g = tt
extracted_of_bytes path bytes before now name (Some content) OutOfMemory h g = tt

extracted_leaves : (before now : Option (List ℕ)) (name : List ℕ) (found : Option (List ℕ))
    (e : RecordReadError)
    → ExtractsContent before now name found (Err e) → LeavesSink before now e
extracted_leaves before now name None (RunNotFound p) h = absurd h
extracted_leaves before now name (Some content) (RunNotFound p) h = absurd h
extracted_leaves before now name None (OpenArchive p) h = absurd h
extracted_leaves before now name (Some content) (OpenArchive p) h = absurd h
extracted_leaves before now name None (ParseArchive p f) h = absurd h
extracted_leaves before now name (Some content) (ParseArchive p f) h = absurd h
extracted_leaves before now name None (FileNotFound p) h = h.2
extracted_leaves before now name (Some content) (FileNotFound p) h = h.2
extracted_leaves before now name None (FileTooLarge p n m) h = absurd h
extracted_leaves before now name (Some content) (FileTooLarge p n m) h = absurd h
extracted_leaves before now name None (NotUtf8 p) h = absurd h
extracted_leaves before now name (Some content) (NotUtf8 p) h = absurd h
extracted_leaves before now name None (DeserializeMetadata p) h = absurd h
extracted_leaves before now name (Some content) (DeserializeMetadata p) h = absurd h
extracted_leaves before now name None (UnknownOutputType p) h = absurd h
extracted_leaves before now name (Some content) (UnknownOutputType p) h = absurd h
extracted_leaves before now name None (ExtractFile p) h = tt
extracted_leaves before now name (Some content) (ExtractFile p) h = tt
extracted_leaves before now name None (OpenRunLog p) h = absurd h
extracted_leaves before now name (Some content) (OpenRunLog p) h = absurd h
extracted_leaves before now name None (DiskFault p) h = h
extracted_leaves before now name (Some content) (DiskFault p) h = h
extracted_leaves before now name None (ReadRunLog n) h = absurd h
extracted_leaves before now name (Some content) (ReadRunLog n) h = absurd h
extracted_leaves before now name None (ParseEvent n) h = absurd h
extracted_leaves before now name (Some content) (ParseEvent n) h = absurd h
extracted_leaves before now name None OutOfMemory h = h
extracted_leaves before now name (Some content) OutOfMemory h = h

unparsed_content : (path bytes : List ℕ) (before : Option (List ℕ)) (name : List ℕ)
    (es : List Entry) (found : Option (List ℕ)) (e : RecordReadError)
    → IsContainer bytes es → Unparsed path bytes e
    → ExtractsContent before before name found (Err e)
unparsed_content path bytes before name es None (RunNotFound p) g h = absurd h
unparsed_content path bytes before name es (Some content) (RunNotFound p) g h = absurd h
unparsed_content path bytes before name es None (OpenArchive p) g h = absurd h
unparsed_content path bytes before name es (Some content) (OpenArchive p) g h = absurd h
unparsed_content path bytes before name es None (ParseArchive p f) g h =
    absurd (no_fault bytes es f g h.1)
unparsed_content path bytes before name es (Some content) (ParseArchive p f) g h =
    absurd (no_fault bytes es f g h.1)
unparsed_content path bytes before name es None (FileNotFound p) g h = absurd h
unparsed_content path bytes before name es (Some content) (FileNotFound p) g h = absurd h
unparsed_content path bytes before name es None (FileTooLarge p n m) g h = absurd h
unparsed_content path bytes before name es (Some content) (FileTooLarge p n m) g h = absurd h
unparsed_content path bytes before name es None (NotUtf8 p) g h = absurd h
unparsed_content path bytes before name es (Some content) (NotUtf8 p) g h = absurd h
unparsed_content path bytes before name es None (DeserializeMetadata p) g h = absurd h
unparsed_content path bytes before name es (Some content) (DeserializeMetadata p) g h = absurd h
unparsed_content path bytes before name es None (UnknownOutputType p) g h = absurd h
unparsed_content path bytes before name es (Some content) (UnknownOutputType p) g h = absurd h
unparsed_content path bytes before name es None (ExtractFile p) g h = absurd h
unparsed_content path bytes before name es (Some content) (ExtractFile p) g h = absurd h
unparsed_content path bytes before name es None (OpenRunLog p) g h = absurd h
unparsed_content path bytes before name es (Some content) (OpenRunLog p) g h = absurd h
unparsed_content path bytes before name es None (DiskFault p) g h = absurd h
unparsed_content path bytes before name es (Some content) (DiskFault p) g h = absurd h
unparsed_content path bytes before name es None (ReadRunLog n) g h = absurd h
unparsed_content path bytes before name es (Some content) (ReadRunLog n) g h = absurd h
unparsed_content path bytes before name es None (ParseEvent n) g h = absurd h
unparsed_content path bytes before name es (Some content) (ParseEvent n) g h = absurd h
unparsed_content path bytes before name es None OutOfMemory g h = refl
unparsed_content path bytes before name es (Some content) OutOfMemory g h = refl

module _ (path bytes : List ℕ) (before now : Option (List ℕ)) (name : List ℕ) where
  pub container_extracts : (entries : List Entry) (r : Result ℕ RecordReadError)
      → IsContainer bytes entries → Extracts before now name entries r → (es : List Entry)
      → IsContainer bytes es → Extracts before now name es r
  container_extracts entries r h extracts es g =
      subst (λ (fs : List Entry). Extracts before now name fs r)
      (one_reading_spec bytes entries es h g) extracts

  of_bytes : (found : Option (List ℕ)) (r : Result ℕ RecordReadError)
      → ExtractsContent before now name found r → IfErr r IsNoDiskFault
      → IfErr r (IsOfBytes path bytes)
  of_bytes found (Ok n) h g = tt
  of_bytes found (Err e) h g = extracted_of_bytes path bytes before now name found e h g

  pub extract_judges : (entries : List Entry) (r : Result ℕ RecordReadError)
      → IsContainer bytes entries → Extracts before now name entries r → IfErr r IsNoDiskFault
      → JudgesBytes path bytes r
  extract_judges entries r h extracts no_disk = record {
    error = of_bytes (content_of entries name) r extracts no_disk;
    fault = λ fault g. absurd (no_fault bytes entries fault h g);
  }

  pub extract_leaves : (entries : List Entry) (r : Result ℕ RecordReadError)
      → Extracts before now name entries r → IfErr r (LeavesSink before now)
  extract_leaves entries (Ok n) extracts = tt
  extract_leaves entries (Err e) extracts =
      extracted_leaves before now name (content_of entries name) e extracts

  pub unparsed_extracts : (e : RecordReadError) → now ≡ before → Unparsed path bytes e
      → (es : List Entry) → IsContainer bytes es → Extracts before now name es (Err e)
  unparsed_extracts e same h es g =
      subst (λ (n : Option (List ℕ)). Extracts before n name es (Err e)) (sym same)
      (unparsed_content path bytes before name es (content_of es name) e g h)
