-- A reader of a store that is lent as one of a type that isn't known.
use borrow.Pointer.Hide.{carry_nowᵐ, carried_sameᵐ}
use denote.Param.Table as table
use denote.Ref.{MutBor}
use Rattle.std.proofs.Common.{◌≡◌, ℕ, List, subst, sym}
use Rattle.rec_container.specs.Container.{Entry}
use Rattle.rec_store.specs.declared.store_reader.StoreReader.{Ghosts}

module _ (C : Type 0) (e f : table.Entry (λ X. Ghosts X) C) (same : e ≡ f)
    (x : MutBor e.0.Denot) where
  -- it holds the entries that it held before
  pub holds-lent : (es : List Entry) → e.1.holds x.now es
      → f.1.holds (carry_nowᵐ (λ X. Ghosts X) C e f same x) es
  holds-lent es h =
      subst (λ (holds : List Entry → Type 0). holds es) (sym
      (carried_sameᵐ (λ X. Ghosts X) C e f same (List Entry → Type 0) (λ j y. j.1.holds y.now) x))
      h

  -- and has its limit
  pub limit-lent : f.1.limit (carry_nowᵐ (λ X. Ghosts X) C e f same x) ≡ e.1.limit x.now
  limit-lent = carried_sameᵐ (λ X. Ghosts X) C e f same ℕ (λ j y. j.1.limit y.now) x
