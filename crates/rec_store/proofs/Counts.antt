-- No call lowers the count of faults of a sink.
use Rattle.std.proofs.Common.{◌≡◌, ℕ, ◌≤◌, List, [], ◌∷◌, Option, Result}
use Rattle.std.proofs.Common.{Ok, Err, OnOk, IfErr, inl, inr, ap, arith}
use Rattle.std.specs.Bool.{⊤}
use Rattle.rec_container.specs.Container.{Entry}
use Rattle.rec_container.specs.Writing.{Writing}
use Rattle.rec_codec.specs.Event.{LiveEvent}
use Rattle.rec_store.specs.declared.error.RunStoreError.TheVariants.{
  Failed,
  NotLoadedOutput,
  NameCollision,
  CountOutOfRange,
  StoreWrite,
  RunLogWrite,
  OutOfMemory,
}
use Rattle.rec_store.specs.declared.error.RunStoreError.{RunStoreError}
use Rattle.rec_store.specs.Logging.{Unappended, LogsLoaded}
use Rattle.rec_store.specs.Recording.{Recording, AddsEach, RefusesEntry}
use Rattle.rec_store.specs.Recording.{AddsUpTo, Stores, Unstored, KeepsCounts}
use Rattle.rec_store.specs.Stopping.{AddsFirst, Stops}

-- ---- of a store

module _ {S : Type 0} (taken : S → Option (List ℕ)) (faults : S → ℕ) where
  count_kept : (old new : Writing S) → new ≡ old → faults old.sink ≤ faults new.sink
  count_kept old new is = omega (arith, ap (λ (w : Writing S). faults w.sink) is)

  count_added : (old new : Writing S) (es : List Entry) → AddsEach taken faults old new es
      → faults old.sink ≤ faults new.sink
  count_added old new [] h = count_kept old new h
  count_added old new (e ∷ es) h = omega (arith, h.1.2, count_added h.0 new es h.2)

  count_refused : (old new : Writing S) (e : Entry) (error : RunStoreError)
      → RefusesEntry taken faults old new e error → faults old.sink ≤ faults new.sink
  count_refused old new e (NameCollision path) h = count_kept old new h.2
  count_refused old new e CountOutOfRange h = count_kept old new h.1
  count_refused old new e StoreWrite h = h.2
  count_refused old new e OutOfMemory h = count_kept old new h
  count_refused old new e Failed h = absurd h
  count_refused old new e NotLoadedOutput h = absurd h
  count_refused old new e RunLogWrite h = absurd h

  count_up_to : (old new : Writing S) (es : List Entry) (error : RunStoreError)
      → AddsUpTo taken faults old new es error → faults old.sink ≤ faults new.sink
  count_up_to old new [] error h = absurd h
  count_up_to old new (e ∷ es) error (inl h) = count_refused old new e error h
  count_up_to old new (e ∷ es) error (inr h) =
      omega (arith, h.1.2, count_up_to h.0 new es error h.2)

  count_first : (old new : Writing S) (es : List Entry) → AddsFirst taken faults old new es
      → faults old.sink ≤ faults new.sink
  count_first old new [] h = count_kept old new h
  count_first old new (e ∷ es) (inl h) = count_kept old new h
  count_first old new (e ∷ es) (inr h) = omega (arith, h.1.2, count_first h.0 new es h.2)

  count_stopped : (old new : Writing S) (es : List Entry) (error : RunStoreError)
      → Stops taken faults old new es error → faults old.sink ≤ faults new.sink
  count_stopped old new es error (inl h) = count_up_to old new es error h
  count_stopped old new es error (inr h) = count_first old new es h.1

-- ---- of a recorder

module _ {S L N : Type 0} (faults : S → ℕ) (log_faults : L → ℕ) where
  pub counts_same : (old new : Recording S L N) → new ≡ old → KeepsCounts faults log_faults old new
  counts_same old new is = record {
    store = omega (arith, ap (λ (r : Recording S L N). faults r.store.sink) is);
    log = omega (arith, ap (λ (r : Recording S L N). log_faults r.log) is);
  }

  pub log_count : (old new : Recording S L N) → new ≡ record old { store = new.store }
      → log_faults old.log ≤ log_faults new.log
  log_count old new is = omega (arith, ap (λ (r : Recording S L N). log_faults r.log) is)

module _ {S L N : Type 0} (taken : S → Option (List ℕ)) (faults : S → ℕ) (log_faults : L → ℕ) where
  -- several entries were added to the store of a recorder, or were not
  pub counts_of_store : (old new : Recording S L N) (es : List Entry) (r : Result ⊤ RunStoreError)
      → new ≡ record old { store = new.store }
      → OnOk r (AddsEach taken faults old.store new.store es)
      → IfErr r (AddsUpTo taken faults old.store new.store es)
      → KeepsCounts faults log_faults old new
  counts_of_store old new es (Ok done) kept h k = record {
    store = count_added taken faults old.store new.store es h;
    log = log_count faults log_faults old new kept;
  }
  counts_of_store old new es (Err error) kept h k = record {
    store = count_up_to taken faults old.store new.store es error k;
    log = log_count faults log_faults old new kept;
  }

  -- several entries were stored, or were not
  pub counts_stored : (old new : Recording S L N) (es : List Entry) (r : Result ⊤ RunStoreError)
      → OnOk r (Stores taken faults old new es) → IfErr r (Unstored taken faults old new es)
      → KeepsCounts faults log_faults old new
  counts_stored old new es (Ok done) h k = record {
    store = count_added taken faults old.store new.store es h.added;
    log = log_count faults log_faults old new h.kept;
  }
  counts_stored old new es (Err error) h (inl k) = counts_same faults log_faults old new k.2
  counts_stored old new es (Err error) h (inr k) = record {
    store = count_up_to taken faults old.store new.store es error k.2;
    log = log_count faults log_faults old new k.1;
  }

module _ {S L N : Type 0} (taken : S → Option (List ℕ)) (faults : S → ℕ)
    (log_taken : L → Option (List ℕ)) (log_faults : L → ℕ) where
  count_unappended : (old new : Recording S L N) (line : List ℕ) (error : RunStoreError)
      → Unappended log_taken log_faults old new line error → log_faults old.log ≤ log_faults new.log
  count_unappended old new line CountOutOfRange h =
      omega (arith, ap (λ (r : Recording S L N). log_faults r.log) h.0)
  count_unappended old new line RunLogWrite h = h.3
  count_unappended old new line Failed h = absurd h
  count_unappended old new line NotLoadedOutput h = absurd h
  count_unappended old new line (NameCollision path) h = absurd h
  count_unappended old new line StoreWrite h = absurd h
  count_unappended old new line OutOfMemory h = absurd h

  -- an event was recorded, or was not
  pub counts_logged : (number : N → List ℕ → ℕ) (old new : Recording S L N) (event : LiveEvent)
      (r : Result ⊤ RunStoreError)
      → LogsLoaded taken faults log_taken log_faults number old new event r
      → KeepsCounts faults log_faults old new
  counts_logged number old new event (Ok done) h =
      record { store = count_added taken faults old.store new.store _ h.0; log = h.1.later }
  counts_logged number old new event (Err error) (inl h) = record {
    store = count_stopped taken faults old.store new.store _ error h.1;
    log = log_count faults log_faults old new h.0;
  }
  counts_logged number old new event (Err error) (inr h) = record {
    store = count_added taken faults old.store new.store _ h.0;
    log = count_unappended (record old { store = new.store }) new _ error h.1;
  }
