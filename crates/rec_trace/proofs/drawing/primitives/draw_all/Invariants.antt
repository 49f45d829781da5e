use Rattle.std.proofs.Common.{◌≡◌, ◌++◌, map}
use Rattle.rec_trace_events.specs.EventTexts.{event_value}
use Rattle.rec_trace.proofs.drawing.primitives.draw_all.Given as goal
use Rattle.rec_trace.specs.Drawn.{all_events}
use Rattle.rec_trace.specs.Table.{bare}

-- what is left completes the trace events
abbrev pub invariant-loop-span : goal.invariant-loop-span
invariant-loop-span l =
    map event_value l.events.items
    ++ all_events (bare l.fn.phase l.fn.sight.judged.now.at l.span-iterator)
    ≡ map event_value l.fn.events.items
    ++ all_events (bare l.fn.phase l.fn.sight.judged.now.at l.fn.sight.tracker.now.spans)
