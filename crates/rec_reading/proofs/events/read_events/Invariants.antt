use Rattle.std.proofs.Common.{◌≡◌, map, Ok}
use Rattle.rec_reading.proofs.events.read_events.Given as goal

-- each item so far was an event
abbrev pub invariant-loop-item : goal.invariant-loop-item
invariant-loop-item l = l.yielded ≡ map Ok l.events.items
