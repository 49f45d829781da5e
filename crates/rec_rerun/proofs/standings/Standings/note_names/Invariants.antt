use Rattle.std.proofs.Common.{◌≡◌, Some}
use Rattle.std.specs.Prelude.{if◌then◌else◌}
use Rattle.rec_events.specs.declared.instances.OwnedTestInstanceId.{OwnedTestInstanceId}
use Rattle.rec_events.specs.Names.{texts}
use Rattle.rec_events.specs.Tests.{is_named}
use Rattle.rec_rerun.proofs.standings.Standings.note_names.Given as goal
use Rattle.rec_rerun.specs.declared.standings.Standing.TheVariants.{Known}
use Rattle.rec_rerun.specs.Standings.{at}

-- what is left completes the tests
abbrev pub invariant-loop-name : goal.invariant-loop-name
invariant-loop-name l = (t : OwnedTestInstanceId) →
    (if is_named l.binary (texts l.name-iterator) t then Some (Known l.passed)
    else at l.self.tests t)
    ≡ (if is_named l.binary l.names t then Some (Known l.passed) else at l.fn.self.tests t)
