use Rattle.std.proofs.Common.{◌≡◌, map}
use Rattle.rec_sample.proofs.head.binary_tests.Given as goal
use Rattle.rec_sample.specs.Head.{binary_tests}
use Rattle.rec_sample.specs.Names.{test_name}

-- the names of those tests that were gone through
abbrev pub invariant-loop-i : goal.invariant-loop-i
invariant-loop-i l = l.names.items ≡ map test_name (binary_tests l.i l.binary)
