-- No call takes an entry out of a store, and what an event names stands in it.
use Rattle.std.proofs.Common.{◌≡◌, ℕ, List, [], ◌∷◌, ◌++◌, Bool, true, false, Option}
use Rattle.std.proofs.Common.{is_some, IsTrue, Result, Ok, Err, OnOk, IfErr, inl, inr, refl}
use Rattle.std.proofs.Common.{sym, ap, subst, ◌∙◌, append_assoc, append-nil, if◌then◌else◌}
use Rattle.std.specs.Bool.{⊤}
use Rattle.std.specs.List.{AllByRecursion}
use Rattle.rec_container.specs.Container.{Entry, content_of}
use Rattle.rec_container.specs.Writing.{Writing}
use Rattle.rec_codec.specs.Event.{LiveEvent}
use Rattle.rec_store.proofs.Adding.{added}
use Rattle.rec_store.proofs.Clashing.{clash_none}
use Rattle.rec_store.proofs.Held.{all_held}
use Rattle.rec_store.proofs.KeptLaws.{names, paths_of_event}
use Rattle.rec_store.proofs.Storing.{sound_store}
use Rattle.rec_store.specs.declared.error.RunStoreError.TheVariants.{
  Failed,
  NotLoadedOutput,
  NameCollision,
  CountOutOfRange,
  StoreWrite,
  RunLogWrite,
  OutOfMemory,
}
use Rattle.rec_store.specs.declared.error.RunStoreError.{RunStoreError}
use Rattle.rec_store.specs.EventOutputs.{event_entries, event_recorded}
use Rattle.rec_store.specs.Kept.{HasOutputs, HavePaths, IsHeld}
use Rattle.rec_store.specs.Logging.{LogsLoaded}
use Rattle.rec_store.specs.Recording.{Recording, AddsEntry, RefusesEntry, AddsEach}
use Rattle.rec_store.specs.Recording.{AddsUpTo, Stores, Unstored, KeepsEntries}
use Rattle.rec_store.specs.Stopping.{AddsFirst, Stops}

-- ---- entries

more_unless : (b : Bool) (es : List Entry) (e : Entry)
    → (more : List Entry) × ((if b then es else es ++ e ∷ []) ≡ es ++ more)
more_unless true es e = ([], sym (append-nil es))
more_unless false es e = (e ∷ [], refl)

module _ {S : Type 0} where
  pub keeps_same : (old new : Writing S) → new ≡ old → KeepsEntries old new
  keeps_same old new is = ([], ap (λ (w : Writing S). w.entries) is ∙ sym (append-nil old.entries))

  keeps_then : (old mid new : Writing S) → KeepsEntries old mid → KeepsEntries mid new
      → KeepsEntries old new
  keeps_then old mid new p q =
      (p.0 ++ q.0, q.1 ∙ ap (λ es. es ++ q.0) p.1 ∙ append_assoc old.entries p.0 q.0)

module _ {S : Type 0} (taken : S → Option (List ℕ)) (faults : S → ℕ) where
  keeps_entry : (old new : Writing S) (e : Entry) → AddsEntry taken faults old new e
      → KeepsEntries old new
  keeps_entry old new e h =
      let m = more_unless (is_some (content_of old.entries e.name)) old.entries e in
      (m.0, added taken faults old new e h.1 ∙ m.1)

  pub keeps_each : (old new : Writing S) (es : List Entry) → AddsEach taken faults old new es
      → KeepsEntries old new
  keeps_each old new [] h = keeps_same old new h
  keeps_each old new (e ∷ es) h =
      keeps_then old h.0 new (keeps_entry old h.0 e h.1) (keeps_each h.0 new es h.2)

  keeps_refused : (old new : Writing S) (e : Entry) (error : RunStoreError)
      → RefusesEntry taken faults old new e error → KeepsEntries old new
  keeps_refused old new e (NameCollision path) h = keeps_same old new h.2
  keeps_refused old new e CountOutOfRange h = keeps_same old new h.1
  keeps_refused old new e StoreWrite h = ([], h.1.2 ∙ sym (append-nil old.entries))
  keeps_refused old new e OutOfMemory h = keeps_same old new h
  keeps_refused old new e Failed h = absurd h
  keeps_refused old new e NotLoadedOutput h = absurd h
  keeps_refused old new e RunLogWrite h = absurd h

  pub keeps_up_to : (old new : Writing S) (es : List Entry) (error : RunStoreError)
      → AddsUpTo taken faults old new es error → KeepsEntries old new
  keeps_up_to old new [] error h = absurd h
  keeps_up_to old new (e ∷ es) error (inl h) = keeps_refused old new e error h
  keeps_up_to old new (e ∷ es) error (inr h) =
      keeps_then old h.0 new (keeps_entry old h.0 e h.1) (keeps_up_to h.0 new es error h.2)

  keeps_first : (old new : Writing S) (es : List Entry) → AddsFirst taken faults old new es
      → KeepsEntries old new
  keeps_first old new [] h = keeps_same old new h
  keeps_first old new (e ∷ es) (inl h) = keeps_same old new h
  keeps_first old new (e ∷ es) (inr h) =
      keeps_then old h.0 new (keeps_entry old h.0 e h.1) (keeps_first h.0 new es h.2)

  pub keeps_stopped : (old new : Writing S) (es : List Entry) (error : RunStoreError)
      → Stops taken faults old new es error → KeepsEntries old new
  keeps_stopped old new es error (inl h) = keeps_up_to old new es error h
  keeps_stopped old new es error (inr h) = keeps_first old new es h.1

  -- several entries were stored, or were not
  pub keeps_all : (old new : Writing S) (es : List Entry) (r : Result ⊤ RunStoreError)
      → OnOk r (AddsEach taken faults old new es) → IfErr r (AddsUpTo taken faults old new es)
      → KeepsEntries old new
  keeps_all old new es (Ok done) h k = keeps_each old new es h
  keeps_all old new es (Err error) h k = keeps_up_to old new es error k

-- ---- contents

-- the names of entries that are held are paths
pub paths_held : (es fs : List Entry) → AllByRecursion (IsHeld es) fs → HavePaths es (names fs)
paths_held es [] h = tt
paths_held es (f ∷ fs) h = (subst (λ o. IsTrue (is_some o)) (sym h.0) refl, paths_held es fs h.1)

module _ {S : Type 0} (taken : S → Option (List ℕ)) (faults : S → ℕ) where
  -- entries that were all added are held
  pub held_each : (old new : Writing S) (es : List Entry) → old.failed ≡ false
      → AddsEach taken faults old new es → AllByRecursion (IsHeld new.entries) es
  held_each old new es sound h =
      let c = clash_none taken faults old new es sound h in
      subst (λ (l : List Entry). AllByRecursion (IsHeld l) es) (sym c.1)
      (all_held old.entries es c.0)

  -- and stand under their names
  pub entries_stand : (old new : Writing S) (es : List Entry) (r : Result ⊤ RunStoreError)
      → old.failed ≡ false → OnOk r (AddsEach taken faults old new es)
      → OnOk r (HavePaths new.entries (names es))
  entries_stand old new es (Ok done) sound h =
      paths_held new.entries es (held_each old new es sound h)
  entries_stand old new es (Err error) sound h = tt

-- ---- calls

module _ {S L N : Type 0} (taken : S → Option (List ℕ)) (faults : S → ℕ) where
  pub keeps_stored : (old new : Recording S L N) (es : List Entry) (r : Result ⊤ RunStoreError)
      → OnOk r (Stores taken faults old new es) → IfErr r (Unstored taken faults old new es)
      → KeepsEntries old.store new.store
  keeps_stored old new es (Ok done) h k = keeps_each taken faults old.store new.store es h.added
  keeps_stored old new es (Err error) h (inl k) =
      keeps_same old.store new.store (ap (λ (r : Recording S L N). r.store) k.2)
  keeps_stored old new es (Err error) h (inr k) =
      keeps_up_to taken faults old.store new.store es error k.2

  -- entries that were stored stand in the store
  pub stored_stand : (old new : Recording S L N) (es : List Entry) (r : Result ⊤ RunStoreError)
      → OnOk r (Stores taken faults old new es) → OnOk r (HavePaths new.store.entries (names es))
  stored_stand old new es (Ok done) h =
      entries_stand taken faults old.store new.store es (Ok done) (sound_store old h.sound) h.added
  stored_stand old new es (Err error) h = tt

  module _ (log_taken : L → Option (List ℕ)) (log_faults : L → ℕ) (number : N → List ℕ → ℕ) where
    pub keeps_logged : (old new : Recording S L N) (event : LiveEvent) (r : Result ⊤ RunStoreError)
        → LogsLoaded taken faults log_taken log_faults number old new event r
        → KeepsEntries old.store new.store
    keeps_logged old new event (Ok done) h = keeps_each taken faults old.store new.store _ h.0
    keeps_logged old new event (Err error) (inl h) =
        keeps_stopped taken faults old.store new.store _ error h.1
    keeps_logged old new event (Err error) (inr h) =
        keeps_each taken faults old.store new.store _ h.0

    stand : (m : ℕ) (f : List ℕ → ℕ) (old new : Writing S) (event : LiveEvent) → old.failed ≡ false
        → AddsEach taken faults old new (event_entries f m event)
        → HasOutputs new.entries (event_recorded f m event)
    stand m f old new event sound h =
        let held = held_each taken faults old new (event_entries f m event) sound h in
        subst (HavePaths new.entries) (sym (paths_of_event f m event))
        (paths_held new.entries (event_entries f m event) held)

    -- what the line of an event names stands in the store
    pub outputs_stand : (old new : Recording S L N) (event : LiveEvent) (r : Result ⊤ RunStoreError)
        → old.store.failed ≡ false
        → LogsLoaded taken faults log_taken log_faults number old new event r
        → OnOk r
        (HasOutputs new.store.entries (event_recorded (number old.namer) old.max_output event))
    outputs_stand old new event (Ok done) sound h =
        stand old.max_output (number old.namer) old.store new.store event sound h.0
    outputs_stand old new event (Err error) sound h = tt
