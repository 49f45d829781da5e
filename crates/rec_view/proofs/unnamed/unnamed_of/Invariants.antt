use Rattle.std.proofs.Common.{◌≡◌, ◌≤◌, ◌+◌, ◌*◌, ◌^◌, drop}
use Rattle.rec_view.proofs.unnamed.unnamed_of.Given as goal
use Rattle.rec_view.specs.Unnamed.{unnamed}

-- with the events that are left, those counted so far are all
abbrev pub invariant-loop-event : goal.invariant-loop-event
invariant-loop-event g l = record {
  counted : l.count + unnamed (drop l.event-index l.events) ≡ unnamed l.events;
  small : l.count ≤ l.event-index * 2 ^ 64;
}
