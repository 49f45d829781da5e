use Rattle.std.proofs.Common.{◌≡◌, ◌++◌, drop}
use Rattle.rec_reading.proofs.rerun.print_tests.Given as goal
use Rattle.rec_reading.specs.Reruns.{test_lines}

-- what was added, and the lines of the tests that are left, are all lines
abbrev pub invariant-loop-test : goal.invariant-loop-test
invariant-loop-test l =
    l.text.items ++ test_lines l.label (drop l.test-index l.tests)
    ≡ l.fn.text.items ++ test_lines l.label l.tests
