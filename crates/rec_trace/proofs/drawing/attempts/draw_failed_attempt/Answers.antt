use Rattle.std.proofs.Common.{Some, ap, sym, ◌∙◌}
use Rattle.std.proofs.lemmas.Result.{on_ok_weaker}
use Rattle.rec_trace_events.proofs.WithoutOutputs.{failed_attempt_args-with}
use Rattle.rec_trace_events.specs.Args.{failed_attempt_args}
use Rattle.rec_trace_events.specs.AttemptEnds.{group_or_global}
use Rattle.rec_spans.specs.Acts.{output_act}
use Rattle.rec_spans.specs.declared.spans.SpanKey.TheVariants as keys
use Rattle.rec_spans.specs.Past.{of_key, scripts_after}
use Rattle.rec_spans.specs.Plain.{plain_output_kind}
use Rattle.rec_trace.proofs.drawing.attempts.draw_failed_attempt.Goals as goal
use Rattle.rec_trace.proofs.DrawingSteps.{failed_of}
use Rattle.rec_trace.specs.Drawing.{in_sight}
use Rattle.rec_trace.specs.KnownNews.{known_in}
use Rattle.rec_trace.specs.Table.{group_of}

pub returns : goal.returns
returns g c =
    let s = c.args.sight.now in
    let k = c.in-TestAttemptFailedWillRetry in
    let spans =
    c.test-span.ensures ∙ ap (of_key (keys.Test k.test_instance)) c.open_spans.ensures in
    let group = in_sight s group_of k.test_instance in
    let args = ◌∙◌ {b = failed_attempt_args k.test_instance k.stress_index group k.run_status
    k.delay_before_next_attempt}
    (ap (λ g. failed_attempt_args k.test_instance k.stress_index (group_or_global g) k.run_status
    k.delay_before_next_attempt) c.group.ensures)
    (sym (failed_attempt_args-with (Unit {0}) (λ o. tt)
    k.test_instance k.stress_index group k.run_status k.delay_before_next_attempt)) in
    let scripts = c.requires.judged.scripts
    ∙ ap (λ kind. scripts_after (output_act (plain_output_kind kind)) s.tracker.now.scripts) k.is in
    on_ok_weaker
    c.draw_counter.result
    (λ drawn. rw k.is
    (failed_of s.version.now s.group_by s.tracker.now (known_in s.known.now)
    s.judged.now.at k.test_instance k.running _ _ _ _ _ _ _ _ _ _
    spans (ap Some args) scripts c.in_ok-draw_end.ensures c.in_ok-draw_arrow_start.ensures drawn))
    c.draw_counter.ensures
