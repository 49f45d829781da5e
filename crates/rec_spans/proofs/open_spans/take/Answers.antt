use Rattle.std.proofs.Common.{None}
use Rattle.rec_spans.proofs.open_spans.take.Goals as goal
use Rattle.rec_spans.proofs.Orders.{span-remove, span-updates}

pub returns : goal.returns
returns c =
    let new = c.remove.new.self in (
      span-remove c.args.spans.now.entries new.entries c.args.place c.remove.ensures.entries,
      span-updates c.args.place c.args.spans.now new None c.remove.ensures.updates,
    )
