use Rattle.std.proofs.Common.{◌≡◌, map}
use Rattle.std.specs.List.{range_with_len}
use Rattle.rec_sample.proofs.head.test_list.Given as goal
use Rattle.rec_sample.specs.Head.{suite}

-- those of the binaries that were gone through
abbrev pub invariant-loop-binary : goal.invariant-loop-binary
invariant-loop-binary l = l.suites ≡ map (suite l.tests) (range_with_len 0 l.binary)
