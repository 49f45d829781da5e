use Rattle.std.proofs.Common.{Some, ap, ◌∙◌}
use Rattle.std.proofs.lemmas.Result.{on_ok_weaker}
use Rattle.rec_trace_events.specs.Args.{run_begin_args}
use Rattle.rec_spans.specs.Acts.{core_act}
use Rattle.rec_spans.specs.Kinds.{change_of, run_span}
use Rattle.rec_spans.specs.Starts.{started}
use Rattle.rec_trace.proofs.drawing.runs.draw_run_start.Goals as goal
use Rattle.rec_trace.proofs.DrawingSteps.{span_is, start_of}
use Rattle.rec_trace.specs.KnownNews.{known_in}

pub returns : goal.returns
returns c =
    let s = c.args.sight.now in
    let k = c.in-RunStarted in
    let span = span_is s.judged.now.started c.in-Some.span run_span c.in-Some.is
    (c.requires.judged.starts
    ∙ ap (λ kind. started (change_of s.group_by s.tracker.now.binaries (core_act kind))) k.is) in
    let args = ap (λ p. run_begin_args s.version.now k.run_id p k.cli_args k.stress_condition)
    c.as_str.ensures.value in
    on_ok_weaker
    c.draw_start.result
    (λ drawn. rw k.is
    (start_of s.version.now s.group_by s.tracker.now (known_in s.known.now)
    s.judged.now.at run_span c.in-Some.span _ _ _ _ _ _ _
    span (ap Some args) c.in_ok-draw_profile_names.ensures drawn))
    c.draw_start.ensures
