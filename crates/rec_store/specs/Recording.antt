-- What a recorder is, as contracts see it, and what its calls do.
use Rattle.std.specs.Prelude.{◌≡◌, ℕ, ◌≤◌, List, [], ◌∷◌, ◌++◌, Bool}
use Rattle.std.specs.Prelude.{true, false, ◌||◌, Option, Some, None, ◌⊎◌}
use Rattle.rec_container.specs.Container.{Entry}
use Rattle.rec_container.specs.declared.errors.ContainerWriteError.TheVariants as writing
use Rattle.rec_container.specs.Writing.{Writing, Adds, RefusesLate, refusal}
use Rattle.rec_store.specs.declared.error.RunStoreError.TheVariants.{
  Failed,
  NotLoadedOutput,
  NameCollision,
  CountOutOfRange,
  StoreWrite,
  RunLogWrite,
  OutOfMemory,
}
use Rattle.rec_store.specs.declared.error.RunStoreError.{RunStoreError}

-- the store's writer; the log's sink, whether it has failed, its length and its events; the namer
-- and the limit of an output
pub record Recording (S L N : Type 0) : Type 0 where
  pub store : Writing S
  pub log : L
  pub log_failed : Bool
  pub log_bytes : ℕ
  pub events : ℕ
  pub namer : N
  pub max_output : ℕ

-- whether a sink has failed
abbrev pub has_failed : {S L N : Type 0} → Recording S L N → Bool
has_failed r = r.store.failed || r.log_failed

-- the refusal of other bytes under this path; its text may want memory
abbrev pub IsCollisionAt : List ℕ → RunStoreError → Type 0
IsCollisionAt path (NameCollision at) = at ≡ path
IsCollisionAt path OutOfMemory = Unit {0}
IsCollisionAt path Failed = ⊥
IsCollisionAt path NotLoadedOutput = ⊥
IsCollisionAt path CountOutOfRange = ⊥
IsCollisionAt path StoreWrite = ⊥
IsCollisionAt path RunLogWrite = ⊥

-- no entry was taken out of a store or changed: what is new stands after them
abbrev pub KeepsEntries : {S : Type 0} → Writing S → Writing S → Type 0
KeepsEntries old new = (more : List Entry) × (new.entries ≡ old.entries ++ more)

module _ {S : Type 0} (taken : S → Option (List ℕ)) (faults : S → ℕ) where
  -- an entry was accepted, so another one of its name has the same content, and it was added; the
  -- sink's count of faults has not fallen
  abbrev pub AddsEntry : Writing S → Writing S → Entry → Type 0
  AddsEntry old new e =
      (refusal old.failed old.entries e.name e.content ≡ None)
      × Adds taken faults old new e.name e.content × (faults old.sink ≤ faults new.sink)

  -- each of the entries was added, in order
  abbrev pub AddsEach : Writing S → Writing S → List Entry → Type 0
  AddsEach old new [] = new ≡ old
  AddsEach old new (e ∷ es) = (mid : Writing S) × AddsEntry old mid e × AddsEach mid new es

  -- why an entry was not added, and what stands then
  abbrev pub RefusesEntry : Writing S → Writing S → Entry → RunStoreError → Type 0
  RefusesEntry old new e (NameCollision path) =
      (path ≡ e.name)
      × (refusal old.failed old.entries e.name e.content ≡ Some writing.NameCollision) × (new ≡ old)
  RefusesEntry old new e CountOutOfRange =
      (refusal old.failed old.entries e.name e.content ≡ Some writing.CountOutOfRange) × (new ≡ old)
  RefusesEntry old new e StoreWrite =
      (refusal old.failed old.entries e.name e.content ≡ None)
      × RefusesLate taken faults old new e.name e.content writing.SinkFault
      × (faults old.sink ≤ faults new.sink)
  RefusesEntry old new e OutOfMemory = new ≡ old
  RefusesEntry old new e Failed = ⊥
  RefusesEntry old new e NotLoadedOutput = ⊥
  RefusesEntry old new e RunLogWrite = ⊥

  -- some of the entries were added, and the next one was refused
  abbrev pub AddsUpTo : Writing S → Writing S → List Entry → RunStoreError → Type 0
  AddsUpTo old new [] e = ⊥
  AddsUpTo old new (x ∷ xs) e =
      RefusesEntry old new x e ⊎ ((mid : Writing S) × AddsEntry old mid x × AddsUpTo mid new xs e)

module _ {S L N : Type 0} (taken : S → Option (List ℕ)) (faults : S → ℕ) where
  -- no sink had failed, the entries were stored, and all else is as it was
  pub record Stores (old new : Recording S L N) (es : List Entry) : Type 0 where
    pub sound : has_failed old ≡ false
    pub added : AddsEach taken faults old.store new.store es
    pub kept : new ≡ record old { store = new.store }

  -- the entries were not all stored: since a sink failed before, or by the refusal of one of them
  abbrev pub Unstored : Recording S L N → Recording S L N → List Entry → RunStoreError → Type 0
  Unstored old new es e =
      ((e ≡ Failed) × (has_failed old ≡ true) × (new ≡ old))
      ⊎ ((has_failed old ≡ false) × (new ≡ record old { store = new.store })
      × AddsUpTo taken faults old.store new.store es e)

module _ {S L N : Type 0} (faults : S → ℕ) (log_faults : L → ℕ) where
  -- neither sink's count of faults has fallen
  pub record KeepsCounts (old new : Recording S L N) : Type 0 where
    pub store : faults old.store.sink ≤ faults new.store.sink
    pub log : log_faults old.log ≤ log_faults new.log
