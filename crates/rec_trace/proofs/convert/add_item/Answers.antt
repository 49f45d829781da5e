use Rattle.std.proofs.Common.{subst, sym}
use Rattle.rec_trace.proofs.convert.add_item.Goals as goal
use Rattle.rec_trace.specs.Converting.{AddsItem}

pub returns : goal.returns
returns c =
    subst (λ item.
    AddsItem c.args.trace.now c.process_event-result.new.self item c.process_event-result.result)
    (sym c.in_ok-event.was) c.process_event-result.ensures
