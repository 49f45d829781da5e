use Rattle.std.proofs.Common.{ap, sym, ◌∙◌}
use Rattle.rec_spans.proofs.OpenedEvents.{taken-back, taken-back-there}
use Rattle.rec_spans.proofs.span_tracker.SpanTracker.take_back.Goals as goal
use Rattle.rec_spans.specs.Acts.{Act}
use Rattle.rec_spans.specs.History.{TraceState}
use Rattle.rec_spans.specs.Kinds.{change_of, trace_input}
use Rattle.rec_spans.specs.Opened.{binaries_taken_back, spans_taken_back}
use Rattle.rec_spans.specs.Plain.{plain}

pub returns-then-opened : goal.returns-then-opened
returns-then-opened g c = λ group state opened was.
    let inside = c.self.inside in
    let old : TraceState = record {
      number = inside.number;
      in_pause = inside.in_pause;
      spans = inside.open_spans;
      binaries = inside.binaries;
      scripts = inside.scripts;
      next_flow = inside.next_flow;
    } in
    taken-back (trace_input group state.binaries (plain c.args.event.now)) state opened.accepted old
    c.close_started.new.open_spans c.remove_binary.new.binaries (c.self.view_is ∙ was)
    (sym opened.added ∙ c.if-opened.true)
    (c.close_started.ensures group state.binaries
    ∙ ap (λ (act : Act). spans_taken_back (change_of group state.binaries act) old.spans)
    c.act_of-act.ensures)
    (c.remove_binary.ensures group state.binaries
    ∙ ap (λ (act : Act). binaries_taken_back (change_of group state.binaries act) old.binaries)
    c.act_of-act.ensures)

pub returns-else-opened : goal.returns-else-opened
returns-else-opened g c = λ group state opened was.
    let inside = c.self.inside in
    let old : TraceState = record {
      number = inside.number;
      in_pause = inside.in_pause;
      spans = inside.open_spans;
      binaries = inside.binaries;
      scripts = inside.scripts;
      next_flow = inside.next_flow;
    } in
    taken-back-there (trace_input group state.binaries (plain c.args.event.now))
    state opened.accepted old c.close_started.new.open_spans (c.self.view_is ∙ was)
    (sym opened.added ∙ c.if-opened.false)
    (c.close_started.ensures group state.binaries
    ∙ ap (λ (act : Act). spans_taken_back (change_of group state.binaries act) old.spans)
    c.act_of-act.ensures)
