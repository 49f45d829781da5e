-- That each warning of a finalization has its cause.
use Rattle.std.proofs.Common.{◌≡◌, ◌≤◌, ℕ, List, [], ◌∷◌, ◌++◌, map}
use Rattle.std.proofs.Common.{Option, Some, None, Result, Ok, Err}
use Rattle.std.specs.Prelude.{IfSome, option_to_list}
use Rattle.rec_session.proofs.Counts.{rose-after, rose-before}
use Rattle.rec_session.specs.declared.finalize.RecordFinalizeWarning.TheVariants.{
  StoreOpenFailed,
  StoreLockFailed,
  MetadataPersistFailed,
  RunNotFoundDuringComplete,
  PruneFailed,
  PruneError,
}
use Rattle.rec_session.specs.declared.finalize.RecordFinalizeWarning.{RecordFinalizeWarning}
use Rattle.rec_session.specs.declared.keeper.KeeperError.TheVariants.{Failed, OutOfMemory}
use Rattle.rec_session.specs.declared.keeper.KeeperError.{KeeperError}
use Rattle.rec_session.specs.declared.keeper.PruneResult.{PruneResult}
use Rattle.rec_session.specs.declared.keeper.RecordPruneError.{RecordPruneError}
use Rattle.rec_session.specs.Finalizing.{AreCaused, IsWarningCause, PrunesAs, prune_result}
use Rattle.rec_session.specs.Keepers.{HasKeeperCause}

cause_before : (a b c : ℕ) (w : RecordFinalizeWarning) → IsWarningCause a b w → b ≤ c
    → IsWarningCause a c w
cause_before a b c StoreOpenFailed rose le = rose-before a b c rose le
cause_before a b c StoreLockFailed rose le = rose-before a b c rose le
cause_before a b c MetadataPersistFailed rose le = rose-before a b c rose le
cause_before a b c PruneFailed rose le = rose-before a b c rose le
cause_before a b c (RunNotFoundDuringComplete id) t le = tt
cause_before a b c (PruneError e) t le = tt

append : (a b : ℕ) (xs ys : List RecordFinalizeWarning) → AreCaused a b xs → AreCaused a b ys
    → AreCaused a b (xs ++ ys)
append a b [] ys p q = q
append a b (x ∷ xs) ys p q = (p.0, append a b xs ys p.1 q)

errors : (a b : ℕ) (es : List RecordPruneError) → AreCaused a b (map PruneError es)
errors a b [] = tt
errors a b (e ∷ es) = (tt, errors a b es)

first : (a b c : ℕ) (w : Option RecordFinalizeWarning) → IfSome w (IsWarningCause a b) → b ≤ c
    → AreCaused a c (option_to_list w)
first a b c None p le = tt
first a b c (Some w) p le = (cause_before a b c w p le, tt)

pruned : (a b : ℕ) (answer : Option PruneResult) → AreCaused a b (prune_result answer).warnings
pruned a b None = tt
pruned a b (Some answer) = errors a b answer.errors

second : (a b c : ℕ) (answer : Result (Option PruneResult) KeeperError)
    (ws all : List RecordFinalizeWarning) (rest : Option PruneResult)
    → a ≤ b → AreCaused a c ws → HasKeeperCause b c answer → PrunesAs answer ws all rest
    → AreCaused a c all
second a b c (Ok answer) ws all rest le caused cause prunes =
    rw prunes.1 (append a c ws _ caused (pruned a c answer))
second a b c (Err Failed) ws all rest le caused cause prunes =
    rw prunes.1 (append a c ws _ caused (rose-after a b c le cause.failed, tt))
second a b c (Err OutOfMemory) ws all rest le caused cause prunes = absurd prunes

-- the warning of the run's end, if there is one, and those of pruning
pub are_caused : (a b c : ℕ) (w : Option RecordFinalizeWarning)
    (answer : Result (Option PruneResult) KeeperError) (ws all : List RecordFinalizeWarning)
    (rest : Option PruneResult)
    → a ≤ b → IfSome w (IsWarningCause a b) → ws ≡ option_to_list w → HasKeeperCause b c answer
    → PrunesAs answer ws all rest → AreCaused a c all
are_caused a b c w answer ws all rest le first_cause is cause prunes =
    second a b c answer ws all rest le (rw is (first a b c w first_cause cause.later)) cause prunes
