-- How a recording ends.
use Rattle.std.specs.Prelude.{◌≡◌, ℕ, List, length, true, false, Option}
use Rattle.rec_container.specs.Causes.{Rose}
use Rattle.rec_container.specs.Container.{Entry, spell, ending, content_bytes}
use Rattle.rec_container.specs.Taking.{TookPart}
use Rattle.rec_format.specs.declared.sizes.ComponentSizes.{ComponentSizes}
use Rattle.rec_store.specs.declared.error.RunStoreError.TheVariants.{
  Failed,
  NotLoadedOutput,
  NameCollision,
  CountOutOfRange,
  StoreWrite,
  RunLogWrite,
  OutOfMemory,
}
use Rattle.rec_store.specs.declared.error.RunStoreError.{RunStoreError}
use Rattle.rec_store.specs.declared.sizes.StoreSizes.{StoreSizes}
use Rattle.rec_store.specs.Recording.{Recording, has_failed}

-- the sizes of a log of so many bytes and events
abbrev pub sizes_of_log : ℕ → ℕ → ComponentSizes
sizes_of_log bytes events = record { compressed = bytes; uncompressed = bytes; entries = events }

-- the sizes of a store of these entries
abbrev pub sizes_of_store : List Entry → ComponentSizes
sizes_of_store es =
    record { compressed = length (spell es); uncompressed = content_bytes es; entries = length es }

-- the sizes of what was recorded
abbrev pub sizes_of : {S L N : Type 0} → Recording S L N → StoreSizes
sizes_of r =
    record { log = sizes_of_log r.log_bytes r.events; store = sizes_of_store r.store.entries }

module _ {S L N : Type 0} (taken : S → Option (List ℕ)) (faults : S → ℕ) where
  -- why the end was not written, and what the store's sink took
  abbrev pub Unended : Recording S L N → S → RunStoreError → Type 0
  Unended old store Failed = (has_failed old ≡ true) × (store ≡ old.store.sink)
  Unended old store StoreWrite =
      (has_failed old ≡ false) × Rose (faults old.store.sink) (faults store)
      × TookPart (taken old.store.sink) (taken store) (ending old.store.entries)
  Unended old store NotLoadedOutput = ⊥
  Unended old store (NameCollision path) = ⊥
  Unended old store CountOutOfRange = ⊥
  Unended old store RunLogWrite = ⊥
  Unended old store OutOfMemory = ⊥
