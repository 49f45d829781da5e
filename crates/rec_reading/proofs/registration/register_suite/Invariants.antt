use Rattle.std.proofs.Common.{◌≡◌, ◌||◌, take}
use Rattle.rec_events.specs.declared.instances.OwnedTestInstanceId.{OwnedTestInstanceId}
use Rattle.rec_events.specs.Tests.{is_named}
use Rattle.rec_replay.specs.Registration.{is_registered}
use Rattle.rec_reading.proofs.registration.register_suite.Given as goal

-- the tests so far are registered
abbrev pub invariant-loop-name : goal.invariant-loop-name
invariant-loop-name l = record {
  registered : (t : OwnedTestInstanceId)
      → is_registered l.context.tests t ≡ (is_named l.fn.binary (take l.name-index l.fn.names) t
      || is_registered l.fn.context.tests t);
  list : l.context.test_list ≡ l.fn.context.test_list;
}
