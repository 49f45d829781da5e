use Rattle.std.proofs.Common.{None}
use Rattle.rec_spans.proofs.Orders.{slot-updates}
use Rattle.rec_view.proofs.walk.Walk.stop.Goals as goal

pub returns-clause-running : goal.returns-clause-running
returns-clause-running c =
    slot-updates c.args.test.now c.args.self.now.running c.remove.new.self None
    c.remove.ensures.updates
