use Rattle.std.proofs.lemmas.Result.{on_ok_weaker}
use Rattle.std.specs.Prelude.{[], ◌∷◌}
use Rattle.rec_trace.proofs.drawing.pauses.draw_run_continuation.Goals as goal
use Rattle.rec_trace.proofs.DrawingSteps.{draws_then}
use Rattle.rec_trace.specs.Drawing.{in_sight}
use Rattle.rec_trace.specs.Table.{counter}

pub returns : goal.returns
returns c =
    let k = c.in-RunContinued in
    let counted = in_sight c.args.sight.now counter k.running k.setup_scripts_running in
    on_ok_weaker
    c.draw_resume.result
    (λ drawn. rw k.is (draws_then (counted ∷ []) _ _ _ _ c.in_ok-draw_counter.ensures
    (draws_then _ _ _ _ _ c.in_ok-draw_run_mark.ensures drawn)))
    c.draw_resume.ensures
