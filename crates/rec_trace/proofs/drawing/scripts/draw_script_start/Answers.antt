use Rattle.std.proofs.Common.{None, ap, refl, ◌∙◌}
use Rattle.std.proofs.lemmas.Result.{on_ok_weaker}
use Rattle.rec_spans.specs.Acts.{core_act}
use Rattle.rec_spans.specs.Kinds.{change_of, script_span}
use Rattle.rec_spans.specs.Past.{scripts_after}
use Rattle.rec_spans.specs.Starts.{started}
use Rattle.rec_trace.proofs.drawing.scripts.draw_script_start.Goals as goal
use Rattle.rec_trace.proofs.DrawingSteps.{counted_start_of, span_is}
use Rattle.rec_trace.specs.KnownNews.{known_in}

pub returns : goal.returns
returns c =
    let s = c.args.sight.now in
    let k = c.in-SetupScriptStarted in
    let span =
    span_is s.judged.now.started c.in-Some.span (script_span k.index k.script_id) c.in-Some.is
    (c.requires.judged.starts
    ∙ ap (λ kind. started (change_of s.group_by s.tracker.now.binaries (core_act kind))) k.is) in
    let scripts = c.requires.judged.scripts
    ∙ ap (λ kind. scripts_after (core_act kind) s.tracker.now.scripts) k.is in
    on_ok_weaker
    c.draw_counter.result
    (λ drawn. rw k.is
    (counted_start_of s.version.now s.group_by s.tracker.now (known_in s.known.now) s.judged.now.at
    (script_span k.index k.script_id) c.in-Some.span
    _ _ None _ _ _ _ _ _ _ _ _
    span refl c.running-tests.ensures scripts c.in_ok-draw_script_names.ensures
    c.in_ok-draw_start.ensures drawn))
    c.draw_counter.ensures
