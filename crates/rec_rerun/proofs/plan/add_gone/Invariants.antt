use Rattle.std.proofs.Common.{◌≡◌, map, ◌++◌, not}
use Rattle.std.specs.List.{filter}
use Rattle.rec_events.specs.Names.{texts}
use Rattle.rec_events.specs.Tests.{test_of}
use Rattle.rec_rerun.proofs.plan.add_gone.Given as goal
use Rattle.rec_rerun.specs.Planned.{is_seen}

-- what is left completes the tests that weren't seen
abbrev pub invariant-loop-name : goal.invariant-loop-name
invariant-loop-name l = l.gone.items ++ filter (λ t. not (is_seen l.seen t))
    (map (test_of l.suite.binary_id) (texts l.name-iterator))
    ≡ l.fn.gone.items
    ++ filter (λ t. not (is_seen l.seen t)) (map (test_of l.suite.binary_id) l.suite.outstanding)
