use Rattle.std.proofs.Common.{◌≡◌, ◌||◌}
use Rattle.rec_events.specs.declared.instances.OwnedTestInstanceId.{OwnedTestInstanceId}
use Rattle.rec_events.specs.Pairs.{pairs}
use Rattle.rec_events.specs.Tests.{is_listed}
use Rattle.rec_replay.specs.Registration.{is_registered}
use Rattle.rec_reading.proofs.registration.register_tests.Given as goal

-- what is left completes the tests
abbrev pub invariant-loop-binary : goal.invariant-loop-binary
invariant-loop-binary l = record {
  registered : (t : OwnedTestInstanceId)
      → (is_listed (record { suites = pairs l.binary-iterator }) t
      || is_registered l.context.tests t)
      ≡ (is_listed l.fn.tests t || is_registered l.fn.context.tests t);
  list : l.context.test_list ≡ l.fn.context.test_list;
}
