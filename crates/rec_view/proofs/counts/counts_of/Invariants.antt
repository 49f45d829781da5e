use Rattle.std.proofs.Common.{map, take}
use Rattle.rec_view.proofs.counts.counts_of.Given as goal
use Rattle.rec_view.specs.Counts.{AreCounts}

-- the tests so far were counted
abbrev pub invariant-loop-test : goal.invariant-loop-test
invariant-loop-test l = AreCounts (map (λ test. test.verdict) (take l.test-index l.tests)) l.counts
