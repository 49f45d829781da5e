use Rattle.rec_faults.proofs.Lines.{◌▸◌}
use Rattle.rec_faults.proofs.store.RecordReadErrorRefusal.write.Goals as goal

pub returns-in-RunNotFound : goal.returns-in-RunNotFound
returns-in-RunNotFound g c = rw (c.in-RunNotFound.is, ← c.as_str.ensures.value) c.text.ensures

pub returns-in-OpenArchive : goal.returns-in-OpenArchive
returns-in-OpenArchive g c =
    rw (c.in-OpenArchive.is, ← c.as_str-in-OpenArchive.ensures.value) c.text-in-OpenArchive.ensures

pub returns-in-ParseArchive : goal.returns-in-ParseArchive
returns-in-ParseArchive g c =
    rw (c.in-ParseArchive.is, ← c.as_str-in-ParseArchive.ensures.value)
    (c.text-in-ParseArchive.ensures ▸ c.name-line.ensures ▸ c.write_container_fault.ensures)

pub returns-in-FileNotFound : goal.returns-in-FileNotFound
returns-in-FileNotFound g c =
    rw (c.in-FileNotFound.is, ← c.as_str-in-FileNotFound.ensures.value)
    c.text-in-FileNotFound.ensures

pub returns-in-FileTooLarge : goal.returns-in-FileTooLarge
returns-in-FileTooLarge g c =
    rw (c.in-FileTooLarge.is, ← c.as_str-in-FileTooLarge.ensures.value) c.large_entry.ensures

pub returns-in-NotUtf8 : goal.returns-in-NotUtf8
returns-in-NotUtf8 g c =
    rw (c.in-NotUtf8.is, ← c.as_str-in-NotUtf8.ensures.value) c.text-in-NotUtf8.ensures

pub returns-in-DeserializeMetadata : goal.returns-in-DeserializeMetadata
returns-in-DeserializeMetadata g c =
    rw (c.in-DeserializeMetadata.is, ← c.as_str-in-DeserializeMetadata.ensures.value)
    c.text-in-DeserializeMetadata.ensures

pub returns-in-UnknownOutputType : goal.returns-in-UnknownOutputType
returns-in-UnknownOutputType g c =
    rw (c.in-UnknownOutputType.is, ← c.as_str-in-UnknownOutputType.ensures.value)
    c.text-in-UnknownOutputType.ensures

pub returns-in-ExtractFile : goal.returns-in-ExtractFile
returns-in-ExtractFile g c =
    rw (c.in-ExtractFile.is, ← c.as_str-in-ExtractFile.ensures.value) c.text-in-ExtractFile.ensures

pub returns-in-OpenRunLog : goal.returns-in-OpenRunLog
returns-in-OpenRunLog g c =
    rw (c.in-OpenRunLog.is, ← c.as_str-in-OpenRunLog.ensures.value) c.text-in-OpenRunLog.ensures

pub returns-in-DiskFault : goal.returns-in-DiskFault
returns-in-DiskFault g c =
    rw (c.in-DiskFault.is, ← c.as_str-in-DiskFault.ensures.value) c.text-in-DiskFault.ensures

pub returns-in-ReadRunLog : goal.returns-in-ReadRunLog
returns-in-ReadRunLog g c = rw c.in-ReadRunLog.is c.number.ensures

pub returns-in-ParseEvent : goal.returns-in-ParseEvent
returns-in-ParseEvent g c = rw c.in-ParseEvent.is c.number-in-ParseEvent.ensures

pub returns-in-OutOfMemory : goal.returns-in-OutOfMemory
returns-in-OutOfMemory g c = rw c.in-OutOfMemory.is c.name.ensures
