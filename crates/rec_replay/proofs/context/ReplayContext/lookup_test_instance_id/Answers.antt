use Rattle.std.proofs.Common.{Some, ap, ◌∙◌}
use Rattle.rec_replay.proofs.context.ReplayContext.lookup_test_instance_id.Goals as goal
use Rattle.rec_replay.proofs.Registered.{found, not_found}

pub returns-in-Some : goal.returns-in-Some
returns-in-Some c = ap Some c.as_id.ensures ∙ found c.args.self.now.tests c.args.test_instance.now
    c.in-Some.test.now c.in-Some.ensures.same_key c.in-Some.ensures.variant

pub returns-in-None : goal.returns-in-None
returns-in-None c =
    not_found c.args.self.now.tests c.args.test_instance.now c.in-None.ensures.variant
