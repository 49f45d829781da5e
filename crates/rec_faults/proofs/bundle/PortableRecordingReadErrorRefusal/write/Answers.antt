use Rattle.rec_faults.proofs.bundle.PortableRecordingReadErrorRefusal.write.Goals as goal
use Rattle.rec_faults.proofs.Lines.{◌▸◌}

pub returns-in-SourceFault : goal.returns-in-SourceFault
returns-in-SourceFault g c = rw c.in-SourceFault.is c.name.ensures

pub returns-in-SpoolTooLarge : goal.returns-in-SpoolTooLarge
returns-in-SpoolTooLarge g c = rw c.in-SpoolTooLarge.is c.number.ensures

pub returns-in-ReadArchive : goal.returns-in-ReadArchive
returns-in-ReadArchive g c =
    rw c.in-ReadArchive.is (c.name-in-ReadArchive.ensures ▸ c.write_container_fault.ensures)

pub returns-in-NotAWrapperArchive : goal.returns-in-NotAWrapperArchive
returns-in-NotAWrapperArchive g c =
    rw c.in-NotAWrapperArchive.is
    (c.number-in-NotAWrapperArchive.ensures ▸ c.number-in-NotAWrapperArchive-2.ensures)

pub returns-in-FileTooLarge : goal.returns-in-FileTooLarge
returns-in-FileTooLarge g c =
    rw (c.in-FileTooLarge.is, ← c.as_str.ensures.value) c.large_entry.ensures

pub returns-in-ParseManifest : goal.returns-in-ParseManifest
returns-in-ParseManifest g c = rw c.in-ParseManifest.is c.name-in-ParseManifest.ensures

pub returns-in-UnsupportedFormatVersion : goal.returns-in-UnsupportedFormatVersion
returns-in-UnsupportedFormatVersion g c =
    rw c.in-UnsupportedFormatVersion.is c.unsupported_bundle.ensures

pub returns-in-UnsupportedStoreFormatVersion : goal.returns-in-UnsupportedStoreFormatVersion
returns-in-UnsupportedStoreFormatVersion g c =
    rw c.in-UnsupportedStoreFormatVersion.is c.unsupported_store.ensures

pub returns-in-MissingFile : goal.returns-in-MissingFile
returns-in-MissingFile g c =
    rw (c.in-MissingFile.is, ← c.as_str-in-MissingFile.ensures.value) c.text.ensures

pub returns-in-ExtractFile : goal.returns-in-ExtractFile
returns-in-ExtractFile g c =
    rw (c.in-ExtractFile.is, ← c.as_str-in-ExtractFile.ensures.value) c.text-in-ExtractFile.ensures

pub returns-in-OutOfMemory : goal.returns-in-OutOfMemory
returns-in-OutOfMemory g c = rw c.in-OutOfMemory.is c.name-in-OutOfMemory.ensures
