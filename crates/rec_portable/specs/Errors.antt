-- The refusals of a bundle.
use Rattle.std.specs.Prelude.{◌≡◌, ◌⊎◌, Result, Ok, Err}
use Rattle.rec_container.specs.declared.errors.ContainerError.TheVariants as faults
use Rattle.rec_container.specs.declared.errors.ContainerError.{ContainerError}
use Rattle.rec_container.specs.declared.within.ReadError.TheVariants as read
use Rattle.rec_container.specs.declared.within.ReadError.{ReadError}
use Rattle.rec_portable.specs.declared.errors.PortableRecordingReadError.TheVariants.{
  SourceFault,
  SpoolTooLarge,
  ReadArchive,
  OutOfMemory,
}
use Rattle.rec_portable.specs.declared.errors.PortableRecordingReadError.{
  PortableRecordingReadError,
}

-- the refusal of a source that wasn't read to its end
abbrev pub source_error : ReadError → PortableRecordingReadError
source_error read.SourceFault = SourceFault
source_error (read.TooLarge limit) = SpoolTooLarge limit
source_error read.OutOfMemory = OutOfMemory

-- the refusal of bytes that are no container, or for which memory ran out
abbrev pub archive_error : ContainerError → PortableRecordingReadError
archive_error faults.OutOfMemory = OutOfMemory
archive_error fault = ReadArchive fault

-- a call answers what is read, but for want of memory
abbrev pub Reads : {T : Type 0} → Result T PortableRecordingReadError
    → Result T PortableRecordingReadError → Type 0
Reads expected (Ok x) = expected ≡ Ok x
Reads expected (Err e) = (e ≡ OutOfMemory) ⊎ (expected ≡ Err e)
