use Rattle.rec_spans.proofs.span_tracker.SpanTracker.commit.Goals as goal

pub returns-clause-ok : goal.returns-clause-ok
returns-clause-ok g c =
    c.advance.ensures c.args.group_by c.args.self.now c.in_ok-opened.ensures.opened
    c.in_ok-opened.ensures.ok
