-- Which error stands for that of what a recording reads and writes.
use Rattle.std.specs.Prelude.{None}
use Rattle.rec_container.specs.declared.within.ReadError.TheVariants as reading
use Rattle.rec_container.specs.declared.within.ReadError.{ReadError}
use Rattle.rec_store.specs.declared.error.RunStoreError.TheVariants as store
use Rattle.rec_store.specs.declared.error.RunStoreError.{RunStoreError}
use Rattle.rec_errors.specs.declared.export_error.RecordExportError.TheVariants.{
  SourceFault,
  SessionTooLarge,
  NameCollision,
  CountOutOfRange,
  OutOfMemory,
}
use Rattle.rec_live_recording.specs.declared.errors.LiveError.TheVariants.{
  Refused,
  StoreFault,
  LogFault,
}
use Rattle.rec_live_recording.specs.declared.errors.LiveError.{LiveError}

-- of a source
abbrev pub read_fault : ReadError → LiveError
read_fault reading.SourceFault = Refused SourceFault
read_fault (reading.TooLarge limit) = Refused (SessionTooLarge limit)
read_fault reading.OutOfMemory = Refused OutOfMemory

-- of a recorder; two of its errors don't come, and stand for want of memory
abbrev pub store_fault : RunStoreError → LiveError
store_fault (store.NameCollision path) = Refused (NameCollision path)
store_fault store.CountOutOfRange = Refused (CountOutOfRange None)
store_fault store.StoreWrite = StoreFault
store_fault store.RunLogWrite = LogFault
store_fault store.OutOfMemory = Refused OutOfMemory
store_fault store.Failed = Refused OutOfMemory
store_fault store.NotLoadedOutput = Refused OutOfMemory
