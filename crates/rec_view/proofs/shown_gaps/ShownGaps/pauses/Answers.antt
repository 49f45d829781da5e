use Rattle.std.proofs.Common.{◌-◌, ◌∙◌, ap, false, length}
use Rattle.rec_view.proofs.GapRuns.{pauses_cut}
use Rattle.rec_view.proofs.shown_gaps.ShownGaps.pauses.Goals as goal
use Rattle.rec_view.specs.ShownGaps.{passes_for}

pub returns : goal.returns
returns c = λ history are.
    pauses_cut (passes_for false history) c.new.result c.in_ok-cutter.cutter (c.len.result - 0)
    (length history - 0) c.new.ensures.slices c.new.ensures.held
    (ap (λ n. n - 0) (c.len.ensures ∙ are.shown.many)) (c.in_ok-cutter.ensures history are)
