-- Why a session is refused, by its parts.
use Rattle.std.proofs.Common.{◌≡◌, ◌^◌, ◌≤◌, ℕ, List, [], ◌∷◌, length, false, Option, Some}
use Rattle.std.proofs.Common.{None, refl, ap, sym, ◌∙◌, subst, inl, inr, ⊎_elim, true≢false}
use Rattle.rec_container.specs.Causes.{Rose}
use Rattle.rec_container.specs.Container.{Entry, spell}
use Rattle.rec_container.specs.Writing.{Writing}
use Rattle.rec_format.specs.declared.rerun.RerunInfo.{RerunInfo}
use Rattle.rec_format.specs.declared.scope.RecordedBuildScope.{RecordedBuildScope}
use Rattle.rec_store.proofs.Adding.{AreNew, no_collision_among, sum_refused, with_entries-new}
use Rattle.rec_store.specs.Clashes.{with_entries}
use Rattle.rec_store.specs.declared.error.RunStoreError.TheVariants as store
use Rattle.rec_store.specs.declared.error.RunStoreError.{RunStoreError}
use Rattle.rec_store.specs.Recording.{Recording, has_failed, AddsUpTo}
use Rattle.rec_session.proofs.Counts.{rose-after, rose-before}
use Rattle.rec_session.specs.Creating.{Refused, first_entries}
use Rattle.rec_session.specs.declared.setup.RecorderCreateError.TheVariants.{Keeper, Store}
use Rattle.rec_session.specs.declared.setup.RecordSetupError.TheVariants.{
  StateDirNotFound,
  StoreCreate,
  StoreLock,
  RecorderCreate,
  OutOfMemory,
}
use Rattle.rec_session.specs.declared.setup.RecordSetupError.{RecordSetupError}
use Rattle.rec_session.specs.SettingUp.{EndsRefused, IsSetUpCause, IsStartCause, store_refusal}

-- the names of what a session stores first are new
pub first_new : (scope : RecordedBuildScope) (rerun : Option RerunInfo)
    → AreNew [] (first_entries scope rerun)
first_new scope None = (refl, tt)
first_new scope (Some info) = (refl, (refl, tt))

module _ {S : Type 0} (taken : S → Option (List ℕ)) (faults : S → ℕ) where
  rose_write : (old new : Writing S) (es : List Entry)
      → AddsUpTo taken faults old new es store.StoreWrite → Rose (faults old.sink) (faults new.sink)
  rose_write old new [] h = absurd h
  rose_write old new (e ∷ es) (inl h) = h.1.0
  rose_write old new (e ∷ es) (inr h) =
      rose-after (faults old.sink) (faults h.0.sink) (faults new.sink) h.1.2
      (rose_write h.0 new es h.2)

  not_failed : (old new : Writing S) (es : List Entry)
      → AddsUpTo taken faults old new es store.Failed → ⊥
  not_failed old new [] h = h
  not_failed old new (e ∷ es) (inl h) = h
  not_failed old new (e ∷ es) (inr h) = not_failed h.0 new es h.2

  not_unloaded : (old new : Writing S) (es : List Entry)
      → AddsUpTo taken faults old new es store.NotLoadedOutput → ⊥
  not_unloaded old new [] h = h
  not_unloaded old new (e ∷ es) (inl h) = h
  not_unloaded old new (e ∷ es) (inr h) = not_unloaded h.0 new es h.2

  not_log : (old new : Writing S) (es : List Entry)
      → AddsUpTo taken faults old new es store.RunLogWrite → ⊥
  not_log old new [] h = h
  not_log old new (e ∷ es) (inl h) = h
  not_log old new (e ∷ es) (inr h) = not_log h.0 new es h.2

module _ {S L N : Type 0} (taken : S → Option (List ℕ)) (faults : S → ℕ)
    (recorder : Recording S L N) (es : List Entry) (sink : S) where
  -- a recorder that refused and was ended refuses the session
  pub ends_refused : (e : RunStoreError) → Refused taken faults recorder es e sink
      → EndsRefused taken faults recorder es (store_refusal e) sink
  ends_refused store.Failed r = r
  ends_refused store.NotLoadedOutput r = r
  ends_refused (store.NameCollision path) r = r
  ends_refused store.CountOutOfRange r = r
  ends_refused store.StoreWrite r = r
  ends_refused store.RunLogWrite r = r
  ends_refused store.OutOfMemory r = r

  module _ (sound : has_failed recorder ≡ false) (none : recorder.store.entries ≡ [])
      (new : AreNew [] es) where
    up_to : (e : RunStoreError) (r : Refused taken faults recorder es e sink)
        → AddsUpTo taken faults recorder.store r.left.store es e
    up_to e r =
        ⊎_elim (λ failed. absurd (true≢false (sym failed.1 ∙ sound))) (λ refused. refused.2)
        r.unstored

    long : (left : Writing S) → AddsUpTo taken faults recorder.store left es store.CountOutOfRange
        → 2 ^ 64 ≤ length (spell es)
    long left h =
        let whole : with_entries recorder.store.entries es ≡ es =
        ap (λ l. with_entries l es) none ∙ with_entries-new [] es new in
        subst (λ l. 2 ^ 64 ≤ length (spell l)) whole
        (sum_refused taken faults recorder.store left es h)

    -- and by its cause
    pub start_cause : (e : RunStoreError) → Refused taken faults recorder es e sink
        → IsStartCause es (faults recorder.store.sink) (faults sink) (store_refusal e)
    start_cause store.Failed r =
        absurd (not_failed taken faults recorder.store r.left.store es (up_to store.Failed r))
    start_cause store.NotLoadedOutput r =
        absurd
        (not_unloaded taken faults recorder.store r.left.store es (up_to store.NotLoadedOutput r))
    start_cause (store.NameCollision path) r =
        absurd (no_collision_among taken faults recorder.store r.left.store es path
        (subst (λ l. AreNew l es) (sym none) new) (up_to (store.NameCollision path) r))
    start_cause store.CountOutOfRange r = long r.left.store (up_to store.CountOutOfRange r)
    start_cause store.StoreWrite r =
        rose-before (faults recorder.store.sink) (faults r.left.store.sink) (faults sink)
        (rose_write taken faults recorder.store r.left.store es (up_to store.StoreWrite r)) r.later
    start_cause store.RunLogWrite r =
        absurd (not_log taken faults recorder.store r.left.store es (up_to store.RunLogWrite r))
    start_cause store.OutOfMemory r = tt

-- a recorder's refusal has its cause in a session too, whatever the keeper's counts
pub set_up_cause : (es : List Entry) (a b c d : ℕ) (e : RecordSetupError) → IsStartCause es c d e
    → IsSetUpCause es a b c d e
set_up_cause es a b c d StateDirNotFound h = absurd h
set_up_cause es a b c d StoreCreate h = absurd h
set_up_cause es a b c d StoreLock h = absurd h
set_up_cause es a b c d (RecorderCreate Keeper) h = absurd h
set_up_cause es a b c d (RecorderCreate (Store e)) h = h
set_up_cause es a b c d OutOfMemory h = tt
