-- Which refusals of a recorder in memory come of a session, and what they become.
use Rattle.rec_store.specs.declared.error.RunStoreError.TheVariants as store
use Rattle.rec_store.specs.declared.error.RunStoreError.{RunStoreError}
use Rattle.rec_errors.specs.declared.export_error.RecordExportError.TheVariants.{
  NameCollision,
  OutOfMemory,
}
use Rattle.rec_errors.specs.declared.export_error.RecordExportError.{RecordExportError}

-- of an event that is loaded, where no sink has failed
abbrev pub ComesOfEvent : RunStoreError → Type 0
ComesOfEvent store.Failed = ⊥
ComesOfEvent store.NotLoadedOutput = ⊥
ComesOfEvent (store.NameCollision path) = Unit {0}
ComesOfEvent store.CountOutOfRange = Unit {0}
ComesOfEvent store.StoreWrite = Unit {0}
ComesOfEvent store.RunLogWrite = Unit {0}
ComesOfEvent store.OutOfMemory = Unit {0}

-- of the metadata of a head, in an empty store
abbrev pub ComesOfHead : RunStoreError → Type 0
ComesOfHead store.Failed = ⊥
ComesOfHead store.NotLoadedOutput = ⊥
ComesOfHead (store.NameCollision path) = ⊥
ComesOfHead store.CountOutOfRange = Unit {0}
ComesOfHead store.StoreWrite = Unit {0}
ComesOfHead store.RunLogWrite = ⊥
ComesOfHead store.OutOfMemory = Unit {0}

-- the refusal of the session: a clash is its own, and the rest is want of memory
abbrev pub event_fault : RunStoreError → RecordExportError
event_fault (store.NameCollision path) = NameCollision path
event_fault store.Failed = OutOfMemory
event_fault store.NotLoadedOutput = OutOfMemory
event_fault store.CountOutOfRange = OutOfMemory
event_fault store.StoreWrite = OutOfMemory
event_fault store.RunLogWrite = OutOfMemory
event_fault store.OutOfMemory = OutOfMemory
