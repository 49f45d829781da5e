use Rattle.std.proofs.Common.{arith, ◌≡◌, subst, w64, to_z, of_z}
use Rattle.std.proofs.lemmas.Int.{to_z-of_z}
use Rattle.std.specs.Prelude.{IfOk, codes}
use Rattle.rec_trace_events.proofs.counters.concurrency_event.Goals as goal
use Rattle.rec_trace_events.specs.EventTexts.{event_value}
use Rattle.rec_trace_events.specs.TraceEvents.{concurrency_event, counter_event, running_args}

pub returns : goal.returns
unfolding concurrency_event
returns c =
    let whole : to_z w64 (of_z w64 c.args.at) ≡ c.args.at = grind (arith, to_z-of_z) in
    subst (λ at. IfOk c.counter_event.result
    (λ e. event_value e ≡ counter_event (codes "concurrency") at (running_args c.args.running)))
    whole c.counter_event.ensures
