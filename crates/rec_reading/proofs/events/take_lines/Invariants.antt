use Rattle.std.proofs.Common.{◌≡◌, List, map, Ok}
use Rattle.rec_codec.specs.Event.{RecordedEvent}
use Rattle.rec_reading.proofs.events.take_lines.Given as goal

-- each item so far was an event, and was taken
abbrev pub invariant-loop-item : goal.invariant-loop-item
invariant-loop-item g l =
    (events : List RecordedEvent) × (l.yielded ≡ map Ok events)
    × g.T.EventTaker.takes l.fn.taker events l.taker
