use Rattle.std.proofs.Common.{Some, ap, sym, ◌∙◌}
use Rattle.std.proofs.lemmas.Result.{on_ok_weaker}
use Rattle.rec_trace_events.proofs.WithoutOutputs.{script_end_args-with}
use Rattle.rec_spans.specs.Acts.{output_act}
use Rattle.rec_spans.specs.declared.spans.SpanKey.TheVariants as keys
use Rattle.rec_spans.specs.Past.{of_key, scripts_after}
use Rattle.rec_spans.specs.Plain.{plain_output_kind}
use Rattle.rec_trace.proofs.drawing.scripts.draw_script_end.Goals as goal
use Rattle.rec_trace.proofs.DrawingSteps.{counted_end_of}
use Rattle.rec_trace.specs.KnownNews.{known_in}

pub returns : goal.returns
returns g c =
    let s = c.args.sight.now in
    let k = c.in-SetupScriptFinished in
    let spans = c.script-span.ensures ∙ ap (of_key (keys.Script k.index)) c.open_spans.ensures in
    let args =
    sym (script_end_args-with (Unit {0}) (λ o. tt) k.script_id k.stress_index k.run_status) in
    let scripts = c.requires.judged.scripts
    ∙ ap (λ kind. scripts_after (output_act (plain_output_kind kind)) s.tracker.now.scripts) k.is in
    on_ok_weaker
    c.draw_counter.result
    (λ drawn. rw k.is
    (counted_end_of s.version.now s.group_by s.tracker.now (known_in s.known.now)
    s.judged.now.at _ _ _ _ _ _ _ _ _ _ _
    spans (ap Some args) c.running-tests.ensures scripts c.in_ok-draw_end.ensures drawn))
    c.draw_counter.ensures
