use Rattle.std.proofs.lemmas.Result.{on_ok_weaker}
use Rattle.std.specs.Prelude.{[], ◌∷◌, option_copied, option_map}
use Rattle.rec_spans.specs.declared.spans.Phase.TheVariants.{Begin}
use Rattle.rec_spans.specs.Past.{mark}
use Rattle.rec_trace.proofs.drawing.primitives.draw_start.Goals as goal
use Rattle.rec_trace.proofs.DrawingSteps.{draws_then}
use Rattle.rec_trace.specs.Drawn.Drawn.{Slice}

pub returns : goal.returns
returns g c =
    let slice = Slice (mark Begin c.args.sight.now.judged.now.at c.args.span.now)
    (option_map g.A.Args.value_of (option_copied c.args.args)) in
    on_ok_weaker c.draw_in_pause.result
    (λ drawn. draws_then (slice ∷ []) _ _ _ _ c.in_ok-draw_slice.ensures drawn)
    c.draw_in_pause.ensures
