use Rattle.std.proofs.Common.{Some, ap, sym, ◌∙◌}
use Rattle.rec_spans.specs.Plain.{plain}
use Rattle.rec_export.proofs.SessionTraced.{refused_stays, refused_then, traced_then}
use Rattle.rec_export.proofs.trace.SessionTrace.add.Goals as goal

pub returns-then-is_some : goal.returns-then-is_some
returns-then-is_some c format g version events is =
    refused_stays format g version events (plain c.args.event.now)
    c.args.self.now.trace c.args.self.now.refusal (sym c.if-is_some.ensures) is

pub returns-in-Ok : goal.returns-in-Ok
returns-in-Ok c = λ format g version events is.
    traced_then format g version events (plain c.args.event.now) c.args.self.now.trace
    c.process_event.new.self c.args.self.now.refusal (sym c.if-is_some.ensures) is
    (λ f k v past has. c.in-Ok.ensures f k v past has)

pub returns-in_ok-refusal_of-in-Err : goal.returns-in_ok-refusal_of-in-Err
returns-in_ok-refusal_of-in-Err c = λ format g version events is.
    refused_then format g version events (plain c.args.event.now) c.args.self.now.trace
    c.process_event.new.self c.args.self.now.refusal c.in-Err.error (sym c.if-is_some.ensures) is
    c.in_ok-refusal_of-in-Err.ensures.1 (λ f k v past has. c.in-Err.ensures f k v past has)
    ∙ ap Some (sym c.in_ok-refusal_of-in-Err.ensures.0)
