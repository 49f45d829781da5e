use Rattle.std.proofs.Common.{List, map, take, ◌++◌}
use Rattle.rec_events.specs.declared.instances.OwnedTestInstanceId.{OwnedTestInstanceId}
use Rattle.rec_events.specs.Tests.{test_of}
use Rattle.rec_rerun.proofs.plan.Planned.place_all.Given as goal
use Rattle.rec_rerun.specs.Planned.{HasPlanned}

-- the tests so far are planned
abbrev pub invariant-loop-name : goal.invariant-loop-name
invariant-loop-name l = (tests : List OwnedTestInstanceId) → HasPlanned l.info tests l.fn.self
    → HasPlanned l.info (tests ++ map (test_of l.binary) (take l.name-index l.names)) l.self
