-- What recording an event leaves, step by step.
use Rattle.std.proofs.Common.{◌≡◌, ℕ, ◌<◌, List, [], ◌∷◌, length, false, Option, Result}
use Rattle.std.proofs.Common.{Ok, Err, arith, length-append, inl, inr, ap, subst, sym, ◌∙◌}
use Rattle.std.specs.Bool.{⊤}
use Rattle.rec_container.specs.Container.{Entry}
use Rattle.rec_container.specs.Writing.{Writing}
use Rattle.rec_codec.specs.Event.{LiveEvent, RecordedEvent, event_text, event_line, IsLogged}
use Rattle.rec_store.proofs.Stopped.{all_added}
use Rattle.rec_store.specs.declared.error.RunStoreError.TheVariants.{
  Failed,
  NotLoadedOutput,
  NameCollision,
  CountOutOfRange,
  StoreWrite,
  RunLogWrite,
  OutOfMemory,
}
use Rattle.rec_store.specs.declared.error.RunStoreError.{RunStoreError}
use Rattle.rec_store.specs.EventOutputs.{event_entries, event_recorded}
use Rattle.rec_store.specs.Logging.{AppendsLine, Unappended, AppendsAs, AppendsEvent, LogsLoaded}
use Rattle.rec_store.specs.Recording.{Recording, AddsEach}
use Rattle.rec_store.specs.Stopping.{StoresAs}

-- a line has its line feed at least
pub some_line : (e : RecordedEvent) (line : List ℕ) → line ≡ event_line e → 0 < length line
some_line e line is = omega (arith, ap length is, length-append (event_text e) (10 ∷ []))

module _ {L : Type 0} (taken : L → Option (List ℕ)) (faults : L → ℕ) {S N : Type 0} where
  -- the line of an event, which is read as it
  pub appended_event : (old new : Recording S L N) (event : RecordedEvent) (line : List ℕ)
      (r : Result ⊤ RunStoreError)
      → line ≡ event_line event → IsLogged event
      → AppendsAs taken faults old new line r → AppendsEvent taken faults old new event r
  appended_event old new event line (Ok done) is read h =
      (subst (λ l. AppendsLine taken faults old new l) is h, read)
  appended_event old new event line (Err e) is read h =
      inl (subst (λ l. Unappended taken faults old new l e) is h)

  -- a line that was not appended left the store alone
  store_kept : (old new : Recording S L N) (line : List ℕ) (e : RunStoreError)
      → Unappended taken faults old new line e → new.store ≡ old.store
  store_kept old new line CountOutOfRange h = ap (λ (r : Recording S L N). r.store) h.0
  store_kept old new line RunLogWrite h = ap (λ (r : Recording S L N). r.store) h.2
  store_kept old new line Failed h = absurd h
  store_kept old new line NotLoadedOutput h = absurd h
  store_kept old new line (NameCollision path) h = absurd h
  store_kept old new line StoreWrite h = absurd h
  store_kept old new line OutOfMemory h = absurd h

module _ {S L N : Type 0} (taken : S → Option (List ℕ)) (faults : S → ℕ)
    (log_taken : L → Option (List ℕ)) (log_faults : L → ℕ) (number : N → List ℕ → ℕ) where
  -- where only the store had changed, and stays, all else is as at first
  as_at_first : (old mid new : Recording S L N) → mid ≡ record old { store = mid.store }
      → new.store ≡ mid.store → mid ≡ record old { store = new.store }
  as_at_first old mid new p q = p ∙ ap (λ (s : Writing S). record old { store = s }) (sym q)

  same_adds : (old mid new : Writing S) (es : List Entry) → new ≡ mid
      → AddsEach taken faults old mid es → AddsEach taken faults old new es
  same_adds old mid new es is h =
      subst (λ (w : Writing S). AddsEach taken faults old w es) (sym is) h

  -- the outputs were stored, and then the line was appended or not
  pub logged : (old mid new : Recording S L N) (event : LiveEvent) (recorded : RecordedEvent)
      (r : Result ⊤ RunStoreError)
      → mid ≡ record old { store = mid.store }
      → recorded ≡ event_recorded (number old.namer) old.max_output event
      → AddsEach taken faults old.store mid.store
      (event_entries (number old.namer) old.max_output event)
      → AppendsEvent log_taken log_faults mid new recorded r
      → LogsLoaded taken faults log_taken log_faults number old new event r
  logged old mid new event recorded (Ok done) kept is added h =
      let same : new.store ≡ mid.store = ap (λ (r : Recording S L N). r.store) h.0.kept in (
        same_adds old.store mid.store new.store
            (event_entries (number old.namer) old.max_output event) same added,
        subst (λ (r : Recording S L N). AppendsLine log_taken log_faults r new
            (event_line (event_recorded (number old.namer) old.max_output event)))
            (as_at_first old mid new kept same)
            (subst (λ (e : RecordedEvent). AppendsLine log_taken log_faults mid new (event_line e))
            is h.0),
        subst IsLogged is h.1,
      )
  logged old mid new event recorded (Err e) kept is added (inl h) =
      let same : new.store ≡ mid.store =
      store_kept log_taken log_faults mid new (event_line recorded) e h in
      inr (
        same_adds old.store mid.store new.store
            (event_entries (number old.namer) old.max_output event) same added,
        subst (λ (r : Recording S L N). Unappended log_taken log_faults r new
            (event_line (event_recorded (number old.namer) old.max_output event)) e)
            (as_at_first old mid new kept same)
            (subst (λ (f : RecordedEvent). Unappended log_taken log_faults mid new (event_line f) e)
            is h),
      )
  logged old mid new event recorded (Err e) kept is added (inr h) =
      let same : new.store ≡ mid.store = ap (λ (r : Recording S L N). r.store) h.1 in inl (
        h.1 ∙ as_at_first old mid new kept same,
        inr (
          h.0,
          all_added taken faults old.store new.store
              (event_entries (number old.namer) old.max_output event)
              (same_adds old.store mid.store new.store
              (event_entries (number old.namer) old.max_output event) same added),
        ),
      )

-- what storing an event's outputs comes to, where a recorder is seen as what it is
pub stored_as_seen : {S L N : Type 0} (taken : S → Option (List ℕ)) (faults : S → ℕ)
    (number : N → List ℕ → ℕ) (seen is : Recording S L N) (new : Writing S) (event : LiveEvent)
    (r : Result RecordedEvent RunStoreError)
    → seen ≡ is → is.store.failed ≡ false
    → (seen.store.failed ≡ false
    → StoresAs taken faults seen.store new (event_entries (number seen.namer) seen.max_output event)
    (event_recorded (number seen.namer) seen.max_output event) r)
    → StoresAs taken faults is.store new (event_entries (number is.namer) is.max_output event)
    (event_recorded (number is.namer) is.max_output event) r
stored_as_seen {S} {L} {N} taken faults number seen is new event r same sound h =
    subst (λ (w : Recording S L N).
    StoresAs taken faults w.store new (event_entries (number w.namer) w.max_output event)
    (event_recorded (number w.namer) w.max_output event) r)
    same
    (h (ap (λ (w : Recording S L N). w.store.failed) same ∙ sound))
