use Rattle.std.proofs.Common.{ap, refl, ◌∙◌}
use Rattle.std.proofs.lemmas.Result.{on_ok_weaker}
use Rattle.rec_spans.specs.Acts.{core_act}
use Rattle.rec_spans.specs.Kinds.{change_of, sub_run_span}
use Rattle.rec_spans.specs.Starts.{started}
use Rattle.rec_trace.proofs.drawing.runs.draw_sub_run_start.Goals as goal
use Rattle.rec_trace.proofs.DrawingSteps.{span_is, start_of}
use Rattle.rec_trace.specs.KnownNews.{known_in}

pub returns : goal.returns
returns c =
    let s = c.args.sight.now in
    let k = c.in-StressSubRunStarted in
    let span = span_is s.judged.now.started c.in-Some.span sub_run_span c.in-Some.is
    (c.requires.judged.starts
    ∙ ap (λ kind. started (change_of s.group_by s.tracker.now.binaries (core_act kind))) k.is) in
    on_ok_weaker
    c.draw_start.result
    (λ drawn. rw k.is
    (start_of s.version.now s.group_by s.tracker.now (known_in s.known.now)
    s.judged.now.at sub_run_span c.in-Some.span _ _ _ _ _ _ _
    span refl c.in_ok-draw_run_names.ensures drawn))
    c.draw_start.ensures
