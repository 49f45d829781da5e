use Rattle.std.proofs.Common.{take}
use Rattle.rec_view.proofs.instants.Instants.new.Given as goal
use Rattle.rec_view.proofs.InstantsTold.{AreStamps}

-- the instants of the events so far are known
abbrev pub invariant-loop-event : goal.invariant-loop-event
invariant-loop-event g l = AreStamps (take l.event-index l.events) l.micros.items
