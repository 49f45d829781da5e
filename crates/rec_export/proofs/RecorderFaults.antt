-- Which refusals a recorder in memory doesn't give.
use Rattle.std.proofs.Common.{◌≡◌, ℕ, List, [], ◌∷◌, true, false, Option, sym, subst, ◌∙◌, inl, inr}
use Rattle.rec_container.specs.Container.{Entry}
use Rattle.rec_container.specs.Writing.{Writing}
use Rattle.rec_format.specs.declared.head.SessionHead.{SessionHead}
use Rattle.rec_codec.specs.Event.{LiveEvent}
use Rattle.rec_codec.specs.EventForms.{kind_loaded}
use Rattle.rec_codec.specs.Live.{is_loaded}
use Rattle.rec_store.proofs.Adding.{AreNew, no_collision_among}
use Rattle.rec_store.specs.declared.error.RunStoreError.TheVariants.{
  Failed,
  NotLoadedOutput,
  NameCollision,
  CountOutOfRange,
  StoreWrite,
  RunLogWrite,
  OutOfMemory,
}
use Rattle.rec_store.specs.declared.error.RunStoreError.{RunStoreError}
use Rattle.rec_store.specs.Logging.{Unlogged}
use Rattle.rec_store.specs.Recording.{AddsUpTo, Recording, Unstored, has_failed}
use Rattle.rec_store.specs.Stopping.{Stops}
use Rattle.rec_store.specs.Store.{store_entries}
use Rattle.rec_export.proofs.Recorded.{metadata_new}
use Rattle.rec_export.specs.RecorderFaults.{ComesOfEvent, ComesOfHead}

module _ {S : Type 0} (taken : S → Option (List ℕ)) (faults : S → ℕ) where
  -- entries are never refused for an earlier failure, an output that isn't loaded or the log
  not_failed : (old new : Writing S) (es : List Entry) → AddsUpTo taken faults old new es Failed → ⊥
  not_failed old new [] h = h
  not_failed old new (e ∷ es) (inl h) = h
  not_failed old new (e ∷ es) (inr h) = not_failed h.0 new es h.2

  not_unloaded : (old new : Writing S) (es : List Entry)
      → AddsUpTo taken faults old new es NotLoadedOutput → ⊥
  not_unloaded old new [] h = h
  not_unloaded old new (e ∷ es) (inl h) = h
  not_unloaded old new (e ∷ es) (inr h) = not_unloaded h.0 new es h.2

  not_logged : (old new : Writing S) (es : List Entry)
      → AddsUpTo taken faults old new es RunLogWrite → ⊥
  not_logged old new [] h = h
  not_logged old new (e ∷ es) (inl h) = h
  not_logged old new (e ∷ es) (inr h) = not_logged h.0 new es h.2

  stops_not_failed : (old new : Writing S) (es : List Entry) → Stops taken faults old new es Failed
      → ⊥
  stops_not_failed old new es (inl h) = not_failed old new es h
  stops_not_failed old new es (inr h) = (let k = h.0 in cc)

  stops_not_unloaded : (old new : Writing S) (es : List Entry)
      → Stops taken faults old new es NotLoadedOutput → ⊥
  stops_not_unloaded old new es (inl h) = not_unloaded old new es h
  stops_not_unloaded old new es (inr h) = (let k = h.0 in cc)

module _ {S L N : Type 0} (taken : S → Option (List ℕ)) (faults : S → ℕ) (old new : Recording S L N)
    (sound : has_failed old ≡ false) where
  -- the metadata of a head in an empty store
  pub head_comes : (head : SessionHead) (e : RunStoreError) → old.store.entries ≡ []
      → Unstored taken faults old new (store_entries head) e → ComesOfHead e
  head_comes head Failed empty (inl h) = absurd (let k = sym sound ∙ h.1 in cc)
  head_comes head Failed empty (inr h) =
      absurd (not_failed taken faults old.store new.store (store_entries head) h.2)
  head_comes head NotLoadedOutput empty (inl h) = absurd (let k = h.0 in cc)
  head_comes head NotLoadedOutput empty (inr h) =
      absurd (not_unloaded taken faults old.store new.store (store_entries head) h.2)
  head_comes head (NameCollision path) empty (inl h) = absurd (let k = h.0 in cc)
  head_comes head (NameCollision path) empty (inr h) =
      let names = metadata_new head.build_scope head.rerun_info head.cargo_metadata head.test_list
      head.record_opts in
      absurd (no_collision_among taken faults old.store new.store (store_entries head) path
      (subst (λ (es : List Entry). AreNew es (store_entries head)) (sym empty) names) h.2)
  head_comes head CountOutOfRange empty u = tt
  head_comes head StoreWrite empty u = tt
  head_comes head RunLogWrite empty (inl h) = absurd (let k = h.0 in cc)
  head_comes head RunLogWrite empty (inr h) =
      absurd (not_logged taken faults old.store new.store (store_entries head) h.2)
  head_comes head OutOfMemory empty u = tt

  module _ (log_taken : L → Option (List ℕ)) (log_faults : L → ℕ) (number : N → List ℕ → ℕ)
      (event : LiveEvent) (loaded : kind_loaded is_loaded event.kind ≡ true) where
    -- an event that is loaded
    pub event_comes : (e : RunStoreError)
        → Unlogged taken faults log_taken log_faults number old new event e → ComesOfEvent e
    event_comes Failed (inl h) = absurd (let k = sym sound ∙ h.1 in cc)
    event_comes Failed (inr (inl h)) = absurd (let k = h.0 in cc)
    event_comes Failed (inr (inr (inl h))) =
        absurd (stops_not_failed taken faults old.store new.store _ h.3)
    event_comes Failed (inr (inr (inr h))) = absurd h.3
    event_comes NotLoadedOutput (inl h) = absurd (let k = h.0 in cc)
    event_comes NotLoadedOutput (inr (inl h)) = absurd (let k = sym loaded ∙ h.2 in cc)
    event_comes NotLoadedOutput (inr (inr (inl h))) =
        absurd (stops_not_unloaded taken faults old.store new.store _ h.3)
    event_comes NotLoadedOutput (inr (inr (inr h))) = absurd h.3
    event_comes (NameCollision path) u = tt
    event_comes CountOutOfRange u = tt
    event_comes StoreWrite u = tt
    event_comes RunLogWrite u = tt
    event_comes OutOfMemory u = tt
