use Rattle.std.proofs.Common.{◌≡◌, length, map}
use Rattle.std.specs.Vec.Iter.{into_iter_items, into_iter_len}
use Rattle.rec_trace_events.specs.EventTexts.{event_value}
use Rattle.rec_trace.proofs.putting.put_all.Given as goal
use Rattle.rec_trace.specs.Targets.{Takes, TakesPart}

-- what is left completes what was put
abbrev pub invariant-loop-event : goal.invariant-loop-event
invariant-loop-event g l =
    let rest = into_iter_items l.event-iterator in
    let all = into_iter_items l.initial.event-iterator in
    record {
      count : into_iter_len l.event-iterator ≡ length rest;
      still : g.T.TraceTarget.faults l.target ≡ g.T.TraceTarget.faults l.fn.target;
      takes : (new : _) → Takes g.T.TraceTarget.holds l.target new (map event_value rest)
          → Takes g.T.TraceTarget.holds l.fn.target new (map event_value all);
      part : (new : _) → TakesPart g.T.TraceTarget.holds l.target new (map event_value rest)
          → TakesPart g.T.TraceTarget.holds l.fn.target new (map event_value all);
    }
