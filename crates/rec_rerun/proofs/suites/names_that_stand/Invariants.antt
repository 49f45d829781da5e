use Rattle.rec_rerun.proofs.Gathered.{IsGathered}
use Rattle.rec_rerun.proofs.suites.names_that_stand.Given as goal
use Rattle.rec_rerun.specs.Suites.{has, stands}

-- the names so far are those of the tests that stand so, but for what is left
abbrev pub invariant-loop-name : goal.invariant-loop-name
invariant-loop-name l = IsGathered l.tests (stands l.passed) (has l.names) l.name-iterator
