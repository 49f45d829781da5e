use Rattle.rec_container.proofs.streams.write_all_dyn.Goals as goal
use Rattle.rec_container.proofs.Written.{written_more}

pub loop-done-preserved : goal.loop-done-preserved
loop-done-preserved g c =
    let step = c.in_ok-done.ensures in
    written_more _ _ _ _ _ _ _ _ _ c.loop-done.invariant step.0 step.1.1.0 step.1.1.1.later
