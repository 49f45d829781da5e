use Rattle.std.proofs.Common.{◌&&◌, ◌-◌, length, nat_lt, subst, true}
use Rattle.rec_view.proofs.GapRuns.{all_cut}
use Rattle.rec_view.proofs.shown_gaps.ShownGaps.slices.Goals as goal
use Rattle.rec_view.specs.ShownGaps.{Adds, passes_for}
use Rattle.rec_view.specs.Slices.{in_pause, instant_if}

pub returns : goal.returns
returns c = λ history are.
    let from = c.args.from in
    let to = c.args.to in
    all_cut (passes_for true history) c.new-cutter.result c.add_instant.new.self
    c.in_ok-cutter.cutter c.add_instant-2.new.self from (to - from)
    (instant_if (in_pause history from) from)
    (instant_if (nat_lt to (length history) && in_pause history to) to)
    c.new-cutter.ensures.slices c.new-cutter.ensures.held
    (subst (λ b. Adds (instant_if b from) c.new-cutter.result c.add_instant.new.self)
    (c.in_pause.ensures history are) c.in_ok-add_instant.ensures.ok)
    (c.in_ok-cutter.ensures history are)
    (subst (λ b. Adds (instant_if b to) c.in_ok-cutter.cutter c.add_instant-2.new.self)
    (c.stops_in_pause.ensures history are) c.in_ok-add_instant-2.ensures.ok)
