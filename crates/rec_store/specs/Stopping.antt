-- What a call leaves that stores several entries, one after the other.
use Rattle.std.specs.Prelude.{◌≡◌, ℕ, List, [], ◌∷◌, false, Option, Result, Ok, Err, ◌⊎◌}
use Rattle.rec_container.specs.Container.{Entry}
use Rattle.rec_container.specs.Writing.{Writing}
use Rattle.rec_store.specs.declared.error.RunStoreError.TheVariants.{OutOfMemory}
use Rattle.rec_store.specs.declared.error.RunStoreError.{RunStoreError}
use Rattle.rec_store.specs.Recording.{AddsEntry, AddsEach, AddsUpTo}

module _ {S : Type 0} (taken : S → Option (List ℕ)) (faults : S → ℕ) where
  -- the first of the entries were added, or all, or none
  abbrev pub AddsFirst : Writing S → Writing S → List Entry → Type 0
  AddsFirst old new [] = new ≡ old
  AddsFirst old new (e ∷ es) =
      (new ≡ old) ⊎ ((mid : Writing S) × AddsEntry taken faults old mid e × AddsFirst mid new es)

  -- the entries were not all stored, or nothing came of it: by the refusal of one of them,
  -- or for want of memory
  abbrev pub Stops : Writing S → Writing S → List Entry → RunStoreError → Type 0
  Stops old new es e =
      AddsUpTo taken faults old new es e ⊎ ((e ≡ OutOfMemory) × AddsFirst old new es)

  -- the entries were stored, and this came of it; or it stopped
  abbrev pub StoresAs : {T : Type 0} → Writing S → Writing S → List Entry → T
      → Result T RunStoreError → Type 0
  StoresAs old new es x (Ok y) = (y ≡ x) × AddsEach taken faults old new es × (new.failed ≡ false)
  StoresAs old new es x (Err e) = Stops old new es e
