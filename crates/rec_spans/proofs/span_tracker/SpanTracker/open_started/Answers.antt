use Rattle.std.proofs.Common.{ap, ◌∙◌}
use Rattle.rec_events.specs.Times.{micros}
use Rattle.rec_spans.proofs.span_tracker.SpanTracker.open_started.Goals as goal
use Rattle.rec_spans.specs.Acts.{Act}
use Rattle.rec_spans.specs.Kinds.{act_input}
use Rattle.rec_spans.specs.Opened.{state_opened}

pub returns-clause-ok : goal.returns-clause-ok
returns-clause-ok g c =
    let old = c.args.self.now in
    let at = micros c.args.event.now.timestamp in
    c.in_ok-has_new_binary.ensures.ok at
    ∙ ap (λ (act : Act). state_opened (act_input c.args.group_by old.binaries at act) old)
    c.act_of-act.ensures
