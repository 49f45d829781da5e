-- How an upgrade of a readable bundle ends.
use Rattle.std.proofs.Common.{◌≡◌, ℕ, ◌≤◌, List, ◌++◌, length, Option, Some}
use Rattle.std.proofs.Common.{None, Result, Ok, Err, IfErr, ap, sym, refl, subst}
use Rattle.std.proofs.Common.{◌∙◌, arith, inl, inr, append-nil, length-append}
use Rattle.std.specs.Io.KnownBytes.{Consumes, IsAtEnd}
use Rattle.rec_container.specs.Causes.{Rose}
use Rattle.rec_container.specs.declared.within.ReadError.TheVariants.{
  SourceFault,
  TooLarge,
  OutOfMemory,
}
use Rattle.rec_container.specs.declared.within.ReadError.{ReadError}
use Rattle.rec_container.specs.Within.{Unread}
use Rattle.rec_store.specs.Reading.{RunRecord}
use Rattle.rec_portable.proofs.AcceptedRuns.{upgradable_not_refused}
use Rattle.rec_portable.specs.declared.upgrade_error.UpgradeError.TheVariants as upgrade
use Rattle.rec_portable.specs.declared.upgrade_error.UpgradeError.{UpgradeError}
use Rattle.rec_portable.specs.Errors.{source_error}
use Rattle.rec_portable.specs.Upgrades.{IsUpgradable, NotUpgraded}
use Rattle.rec_portable.specs.Upgrading.{IsRefused, open_error}

-- what a source gave to its end is what it had
given_all : (a b : Option (List ℕ)) (bytes given : List ℕ) → a ≡ Some bytes → Consumes a b given
    → IsAtEnd b → given ≡ bytes
given_all None b bytes given has gave ended = absurd cc
given_all (Some x) None bytes given has gave ended = absurd gave
given_all (Some x) (Some y) bytes given has gave ended =
    let same : x ≡ bytes = cc in
    sym (append-nil given) ∙ ap (λ l. given ++ l) (sym ended) ∙ sym gave ∙ same

-- what a source gave is no longer than what it had
given_most : (a b : Option (List ℕ)) (bytes given : List ℕ) → a ≡ Some bytes → Consumes a b given
    → length given ≤ length bytes
given_most None b bytes given has gave = absurd cc
given_most (Some x) None bytes given has gave = absurd gave
given_most (Some x) (Some y) bytes given has gave =
    let same : x ≡ bytes = cc in let whole : bytes ≡ given ++ y = sym same ∙ gave in
    rw whole (omega (arith, length-append {A = ℕ}))

module _ {S B : Type 0} (left : S → Option (List ℕ)) (source_faults : S → ℕ)
    (taken : B → Option (List ℕ)) (faults : B → ℕ) (spool limit : ℕ) (s0 s1 : S) (b0 b1 : B)
    (bytes : List ℕ) (run : RunRecord) (has : left s0 ≡ Some bytes) (within : length bytes ≤ spool)
    (u : IsUpgradable bytes limit run) (source : ¬ (Rose (source_faults s0) (source_faults s1)))
    (sink : ¬ (Rose (faults b0) (faults b1))) where
  unread : (r : ReadError) → Unread left source_faults spool s0 s1 r → r ≡ OutOfMemory
  unread SourceFault h = absurd (source h.0)
  unread (TooLarge most) h =
      let longer = given_most (left s0) (left s1) bytes h.2.0 has h.2.1 in let count = h.2.2 in
      absurd (omega arith)
  unread OutOfMemory h = refl

  not_upgraded : (e : UpgradeError)
      → NotUpgraded left source_faults taken faults spool limit s0 s1 b0 b1 e
      → e ≡ upgrade.OutOfMemory
  not_upgraded e (inl n) = n.1 ∙ ap (λ r. open_error (source_error r)) (unread n.0 n.2)
  not_upgraded e (inr (inl n)) =
      let same = given_all (left s0) (left s1) bytes n.0 has n.1.gave n.1.ended in
      elim n.2 [
        | inl memory ↦ memory
        | inr refused ↦ absurd (upgradable_not_refused bytes limit run u e
            (subst (λ (b : List ℕ). IsRefused b limit e) same refused))
      ]
  not_upgraded e (inr (inr n)) = absurd (sink n.5)

  pub upgrade_completes : {X : Type 0} (r : Result X UpgradeError)
      → IfErr r (NotUpgraded left source_faults taken faults spool limit s0 s1 b0 b1)
      → IfErr r (λ e. e ≡ upgrade.OutOfMemory)
  upgrade_completes (Ok x) h = tt
  upgrade_completes (Err e) h = not_upgraded e h
