use Rattle.std.proofs.Common.{map}
use Rattle.rec_spans.specs.Plain.{plain}
use Rattle.rec_view.proofs.GapsShown.{Kept}
use Rattle.rec_view.proofs.shown_gaps.ShownGaps.new.Given as goal

-- of the events so far it is known after which the run is outside pauses, and whether it is in one
abbrev pub invariant-loop-event : goal.invariant-loop-event
invariant-loop-event g l =
    Kept (map plain l.events) l.event-index l.in_pause l.shown.items
