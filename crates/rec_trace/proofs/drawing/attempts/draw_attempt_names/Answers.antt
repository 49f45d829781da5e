use Rattle.std.proofs.Common.{◌∙◌}
use Rattle.rec_trace.proofs.drawing.attempts.draw_attempt_names.Goals as goal
use Rattle.rec_trace.proofs.DrawingSteps.{names_of}
use Rattle.rec_trace.specs.KnownNews.{known_in}

pub returns : goal.returns
returns c =
    let s = c.args.sight.now in
    names_of s.version.now s.group_by s.tracker.now (known_in s.known.now)
    s.judged.now.at c.args.row _ _ _ _ _ _ _
    c.test_process-process.ensures (c.as_str.ensures.value ∙ c.in_ok-name.ensures)
    c.draw_names.ensures
