use Rattle.std.proofs.Common.{[], Option, take}
use Rattle.rec_format.specs.declared.rerun.RerunInfo.{RerunInfo}
use Rattle.rec_rerun.proofs.selection.RerunSelector.add_events.Given as goal
use Rattle.rec_rerun.specs.Selection.{HasTaken}

-- the events so far were taken
abbrev pub invariant-loop-event : goal.invariant-loop-event
invariant-loop-event l =
    (parent : Option RerunInfo) → HasTaken parent [] l.fn.self.standings.tests
    → HasTaken parent (take l.event-index l.events) l.self.standings.tests
