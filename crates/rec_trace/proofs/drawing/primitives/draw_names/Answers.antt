use Rattle.std.proofs.lemmas.Result.{on_ok_weaker}
use Rattle.rec_trace.proofs.drawing.primitives.draw_names.Goals as goal
use Rattle.rec_trace.proofs.DrawingSteps.{draws_then}

pub returns : goal.returns
returns c =
    on_ok_weaker c.name_row.result
    (λ drawn. draws_then _ _ _ _ _ c.in_ok-name_process.ensures drawn) c.name_row.ensures
