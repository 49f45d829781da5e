use Rattle.std.proofs.Common.{refl, ◌∙◌}
use Rattle.rec_trace.proofs.drawing.primitives.draw_run_names.Goals as goal
use Rattle.rec_trace.proofs.DrawingSteps.{names_of}
use Rattle.rec_trace.specs.KnownNews.{known_in}

pub returns : goal.returns
returns c =
    let s = c.args.sight.now in
    names_of s.version.now s.group_by s.tracker.now (known_in s.known.now)
    s.judged.now.at c.args.row _ _ _ _ _ _ _
    (c.as_str.ensures.value ∙ c.in_ok-process.ensures) refl c.draw_names.ensures
