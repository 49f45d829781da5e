use Rattle.std.proofs.Common.{ℕ, Bool, List}
use Rattle.std.specs.List.{AllByRecursion}
use Rattle.rec_format.specs.Suites.{suite_of}
use Rattle.rec_rerun.proofs.Gathered.{IsGathered}
use Rattle.rec_rerun.proofs.suites.suites_of.Given as goal
use Rattle.rec_rerun.proofs.SuiteSets.{names_at}
use Rattle.rec_rerun.specs.Standings.{in_binary}
use Rattle.rec_rerun.specs.Suites.{IsFull, stands}

-- the suites so far have the tests of their binaries, but for what is left
abbrev pub invariant-loop-binary : goal.invariant-loop-binary
invariant-loop-binary l = record {
  full : AllByRecursion IsFull l.suites;
  found : (passed : Bool) (name : List ℕ) →
      IsGathered l.standings.tests (λ o. stands passed (in_binary o name))
      (λ id. names_at passed (suite_of id l.suites) name) l.binary-iterator;
}
