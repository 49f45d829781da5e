use Rattle.std.proofs.Common.{◌∙◌}
use Rattle.rec_reading.proofs.Registered.{name-more}
use Rattle.rec_reading.proofs.registration.register_suite.Goals as goal

pub loop-name-preserved : goal.loop-name-preserved
loop-name-preserved c = record {
  registered =
      λ t. name-more c.args.binary.now c.args.names.now c.loop-name.name-index c.name-item.result t
      _ _ _ c.loop-name-test.true c.name-item.is
      (c.loop-name.invariant.registered t) (c.in_ok-register_test.ensures.registered t);
  list = c.in_ok-register_test.ensures.list ∙ c.loop-name.invariant.list;
}
