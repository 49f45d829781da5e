use Rattle.std.proofs.Common.{map}
use Rattle.rec_spans.specs.Plain.{plain}
use Rattle.rec_slots.proofs.usage.slot_usage.Given as goal
use Rattle.rec_slots.specs.Walked.{HasWalked}

-- the events so far were walked
abbrev pub invariant-loop-event : goal.invariant-loop-event
invariant-loop-event l = HasWalked (map plain l.events) l.event-index l.walk
