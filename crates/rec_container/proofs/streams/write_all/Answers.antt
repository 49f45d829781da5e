use Rattle.rec_container.proofs.streams.write_all.Goals as goal
use Rattle.rec_container.proofs.Written.{written_more}

pub loop-at-preserved : goal.loop-at-preserved
loop-at-preserved g c =
    let step = c.in_ok-at.ensures in
    written_more _ _ _ _ _ _ _ _ _ c.loop-at.invariant step.bound step.bytes step.cause.later
