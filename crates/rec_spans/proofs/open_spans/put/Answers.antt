use Rattle.std.proofs.Common.{Some}
use Rattle.rec_spans.proofs.open_spans.put.Goals as goal
use Rattle.rec_spans.proofs.Orders.{span-insert, span-updates}

pub returns-clause-ok : goal.returns-clause-ok
returns-clause-ok c =
    let s = c.args.span in
    let new = c.insert.new.self in (
      span-insert c.args.spans.now.entries new.entries s.place s c.in_ok-insert.ensures.entries,
      span-updates s.place c.args.spans.now new (Some s) c.in_ok-insert.ensures.updates,
    )
