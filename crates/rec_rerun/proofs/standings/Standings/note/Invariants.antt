use Rattle.std.proofs.Common.{◌≡◌, Some}
use Rattle.std.specs.Prelude.{if◌then◌else◌}
use Rattle.rec_events.specs.declared.instances.OwnedTestInstanceId.{OwnedTestInstanceId}
use Rattle.rec_rerun.proofs.standings.Standings.note.Given as goal
use Rattle.rec_rerun.specs.declared.standings.Standing.TheVariants.{Known}
use Rattle.rec_rerun.specs.Standings.{at}
use Rattle.rec_rerun.specs.Suites.{holds}

-- what is left completes the tests
abbrev pub invariant-loop-suite : goal.invariant-loop-suite
invariant-loop-suite l = (t : OwnedTestInstanceId) →
    (if holds l.passed l.suite-iterator t then Some (Known l.passed) else at l.self.tests t)
    ≡ (if holds l.passed l.suites t then Some (Known l.passed) else at l.fn.self.tests t)
