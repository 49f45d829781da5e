use Rattle.std.proofs.Common.{◌≡◌, List, ◌++◌}
use Rattle.rec_events.specs.declared.instances.OwnedTestInstanceId.{OwnedTestInstanceId}
use Rattle.rec_events.specs.Pairs.{pairs}
use Rattle.rec_rerun.proofs.plan.plan_list.Given as goal
use Rattle.rec_rerun.specs.Planned.{HasPlanned}
use Rattle.rec_rerun.specs.Plans.{tests_in}

-- what is left completes the tests that were planned
abbrev pub invariant-loop-binary : goal.invariant-loop-binary
invariant-loop-binary l = (tests : List OwnedTestInstanceId) × HasPlanned l.info tests l.planned
    × (tests ++ tests_in (pairs l.binary-iterator) ≡ tests_in l.list.suites)
