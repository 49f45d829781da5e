use Rattle.std.proofs.Common.{ap, ◌∙◌}
use Rattle.rec_spans.proofs.OpenedEvents.{passed}
use Rattle.rec_spans.proofs.span_tracker.SpanTracker.advance.Goals as goal
use Rattle.rec_spans.specs.Acts.{Act}
use Rattle.rec_spans.specs.Kinds.{change_of, trace_input}
use Rattle.rec_spans.specs.Opened.{state_passed}
use Rattle.rec_spans.specs.Plain.{plain}

pub returns : goal.returns
returns g c = λ group state opened was.
    let old = c.args.self.now in
    let number = c.args.opened.number in
    let scripts = c.args.opened.running_scripts in
    let input = trace_input group state.binaries (plain c.args.event.now) in
    c.pass.ensures group state.binaries
    ∙ ap (λ (act : Act). state_passed act (change_of group state.binaries act) number scripts old)
    c.act_of.ensures
    ∙ ap (state_passed input.act input.change number scripts) was
    ∙ passed input state number scripts opened.numbered opened.scripts
