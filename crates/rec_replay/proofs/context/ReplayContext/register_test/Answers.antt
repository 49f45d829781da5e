use Rattle.rec_replay.proofs.context.ReplayContext.register_test.Goals as goal
use Rattle.rec_replay.proofs.Registered.{registers}

pub returns-clause-registered : goal.returns-clause-registered
returns-clause-registered c =
    registers c.args.self.now.tests c.insert.new.self c.args.test_instance
    c.in_ok-insert.ensures.updates.0
