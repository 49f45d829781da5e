-- The tests without names, counted event by event.
use Rattle.std.proofs.Common.{◌≡◌, ℕ, zero, suc, ◌+◌, List, [], ◌∷◌, drop, slice_get, Some}
use Rattle.std.proofs.Common.{ap, arith}
use Rattle.rec_events.specs.declared.events.TestEventSummary.{TestEventSummary}
use Rattle.rec_view.proofs.GapsShown.{some_same}
use Rattle.rec_view.specs.Unnamed.{kind_unnamed, unnamed}

module _ {S O : Type 0} where
  next : (events : List (TestEventSummary S O)) (i : ℕ) (e : TestEventSummary S O)
      → slice_get events i ≡ Some e
      → unnamed (drop i events) ≡ kind_unnamed e.kind + unnamed (drop (suc i) events)
  next [] i e is = cc
  next (x ∷ events) zero e is =
      ap (λ (y : TestEventSummary S O). kind_unnamed y.kind + unnamed events) (some_same x e is)
  next (x ∷ events) (suc i) e is = next events i e is

  -- one event more is counted
  pub counted_more : (events : List (TestEventSummary S O)) (i : ℕ) (e : TestEventSummary S O)
      (before more after : ℕ) → slice_get events i ≡ Some e → more ≡ kind_unnamed e.kind
      → after ≡ before + more → before + unnamed (drop i events) ≡ unnamed events
      → after + unnamed (drop (suc i) events) ≡ unnamed events
  counted_more events i e before more after at is sum all =
      let n = next events i e at in omega (arith, n, is, sum, all)
