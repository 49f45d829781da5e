-- What several calls that store entries leave, one after the other.
use Rattle.std.proofs.Common.{◌≡◌, ℕ, List, [], ◌∷◌, ◌++◌, false, Option}
use Rattle.std.proofs.Common.{Result, Ok, Err, OnOk, IfErr, inl, inr, refl, sym}
use Rattle.std.specs.Bool.{⊤}
use Rattle.rec_container.specs.Container.{Entry}
use Rattle.rec_container.specs.Writing.{Writing}
use Rattle.rec_store.proofs.Adding.{AddsUpTo-prefix, AddsUpTo-after}
use Rattle.rec_store.specs.declared.error.RunStoreError.{RunStoreError}
use Rattle.rec_store.specs.Recording.{AddsEntry, RefusesEntry, AddsEach}
use Rattle.rec_store.specs.Stopping.{AddsFirst, Stops, StoresAs}

module _ {S : Type 0} (taken : S → Option (List ℕ)) (faults : S → ℕ) where
  pub one_stored : (old new : Writing S) (e : Entry) (r : Result ⊤ RunStoreError)
      → OnOk r (AddsEntry taken faults old new e) → OnOk r (new.failed ≡ false)
      → IfErr r (RefusesEntry taken faults old new e) → StoresAs taken faults old new (e ∷ []) tt r
  one_stored old new e (Ok u) took sound refused = (refl, (new, took, refl), sound)
  one_stored old new e (Err error) took sound refused = inl (inl refused)

  -- none of the entries was added
  pub none_added : (w : Writing S) (es : List Entry) → AddsFirst taken faults w w es
  none_added w [] = refl
  none_added w (e ∷ es) = inl refl

  -- all of them were
  pub all_added : (old new : Writing S) (es : List Entry) → AddsEach taken faults old new es
      → AddsFirst taken faults old new es
  all_added old new [] h = h
  all_added old new (e ∷ es) h = inr (h.0, h.1, all_added h.0 new es h.2)

  first_prefix : (old new : Writing S) (es fs : List Entry) → AddsFirst taken faults old new es
      → AddsFirst taken faults old new (es ++ fs)
  first_prefix old new [] fs h = rw h (none_added old fs)
  first_prefix old new (e ∷ es) fs (inl h) = inl h
  first_prefix old new (e ∷ es) fs (inr h) = inr (h.0, h.1, first_prefix h.0 new es fs h.2)

  first_after : (old mid new : Writing S) (es fs : List Entry) → AddsEach taken faults old mid es
      → AddsFirst taken faults mid new fs → AddsFirst taken faults old new (es ++ fs)
  first_after old mid new [] fs p q = rw (sym p) q
  first_after old mid new (e ∷ es) fs p q = inr (p.0, p.1, first_after p.0 mid new es fs p.2 q)

  pub Stops-prefix : (old new : Writing S) (es fs : List Entry) (e : RunStoreError)
      → Stops taken faults old new es e → Stops taken faults old new (es ++ fs) e
  Stops-prefix old new es fs e (inl h) = inl (AddsUpTo-prefix taken faults old new es fs e h)
  Stops-prefix old new es fs e (inr h) = inr (h.0, first_prefix old new es fs h.1)

  pub Stops-after : (old mid new : Writing S) (es fs : List Entry) (e : RunStoreError)
      → AddsEach taken faults old mid es → Stops taken faults mid new fs e
      → Stops taken faults old new (es ++ fs) e
  Stops-after old mid new es fs e p (inl q) =
      inl (AddsUpTo-after taken faults old mid new es fs e p q)
  Stops-after old mid new es fs e p (inr q) = inr (q.0, first_after old mid new es fs p q.1)
