use Rattle.std.proofs.Common.{ap, sym, ◌∙◌}
use Rattle.std.proofs.lemmas.Result.{on_ok_weaker}
use Rattle.rec_trace_events.proofs.WithoutOutputs.{finished_test_args-with}
use Rattle.rec_trace_events.specs.Args.{finished_test_args}
use Rattle.rec_trace_events.specs.AttemptEnds.{group_or_global}
use Rattle.rec_spans.specs.Acts.{output_act}
use Rattle.rec_spans.specs.declared.spans.SpanKey.TheVariants as keys
use Rattle.rec_spans.specs.Past.{of_key, scripts_after}
use Rattle.rec_spans.specs.Plain.{plain_output_kind}
use Rattle.rec_trace.proofs.drawing.attempts.draw_test_end.Goals as goal
use Rattle.rec_trace.proofs.DrawingSteps.{finished_args, finished_of}
use Rattle.rec_trace.specs.Drawing.{in_sight}
use Rattle.rec_trace.specs.KnownNews.{known_in}
use Rattle.rec_trace.specs.Table.{group_of}

pub returns : goal.returns
returns g c =
    let s = c.args.sight.now in
    let k = c.in-TestFinished in
    let spans =
    c.test-span.ensures ∙ ap (of_key (keys.Test k.test_instance)) c.open_spans.ensures in
    let group = in_sight s group_of k.test_instance in
    let args = ◌∙◌ {b = finished_test_args k.test_instance k.stress_index group k.run_statuses}
    (finished_test_args-with (Unit {0}) (λ o. tt) k.test_instance k.stress_index group
    k.run_statuses)
    (finished_args k.test_instance k.stress_index group _ k.run_statuses
    c.last_status-last.result.now _ c.last_status-last.ensures c.counted_flaky_result.ensures
    (ap group_or_global c.group.ensures)) in
    let scripts = c.requires.judged.scripts
    ∙ ap (λ kind. scripts_after (output_act (plain_output_kind kind)) s.tracker.now.scripts) k.is in
    on_ok_weaker
    c.draw_results.result
    (λ drawn. rw k.is
    (finished_of s.version.now s.group_by s.tracker.now (known_in s.known.now)
    s.judged.now.at k.running _ _ _ _ _ _ _ _ _ _ _ _
    spans (sym args)
    scripts c.in-Some.ensures.value c.in_ok-draw_end.ensures c.in_ok-draw_counter.ensures drawn))
    c.draw_results.ensures
