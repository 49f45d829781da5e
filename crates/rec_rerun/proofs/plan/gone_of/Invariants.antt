use Rattle.std.proofs.Common.{◌≡◌, ◌++◌, not}
use Rattle.std.specs.List.{filter}
use Rattle.rec_rerun.proofs.plan.gone_of.Given as goal
use Rattle.rec_rerun.specs.Planned.{is_seen}
use Rattle.rec_rerun.specs.Plans.{outstanding_in}

-- what is left completes the tests that weren't seen
abbrev pub invariant-loop-suite : goal.invariant-loop-suite
invariant-loop-suite l =
    l.gone.items ++ filter (λ t. not (is_seen l.seen t)) (outstanding_in l.suite-iterator)
    ≡ filter (λ t. not (is_seen l.seen t)) (outstanding_in l.info.test_suites)
