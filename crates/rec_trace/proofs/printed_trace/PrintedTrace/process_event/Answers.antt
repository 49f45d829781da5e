use Rattle.std.proofs.Common.{refl}
use Rattle.std.proofs.lemmas.Result.{err_from_is_err_and}
use Rattle.rec_spans.specs.Plain.{plain}
use Rattle.rec_trace.proofs.printed_trace.PrintedTrace.process_event.Goals as goal
use Rattle.rec_trace.proofs.Printing.{not-drawn, printed}

pub returns-in_err-drawn : goal.returns-in_err-drawn
returns-in_err-drawn g c = λ format k version events has.
    let p = err_from_is_err_and c.from_residual.result c.from_residual.ensures.1 in
    rw (p.1, p.2)
    (not-drawn format k version events (plain c.args.event.now) c.args.self.now has
    (record c.args.self.now { tracer = c.prepare.new.self }) _ refl c.in_err-drawn.ensures.err
    c.in_err-drawn.ensures.judged)

pub returns : goal.returns
returns g c = λ format k version events has.
    printed format k version events (plain c.args.event.now) c.args.self.now has
    (record c.args.self.now { tracer = c.prepare.new.self }) c.print.new.self _ c.print.result refl
    c.in_ok-drawn.ensures.judged c.in_ok-drawn.ensures.drawn
    (c.print.ensures c.args.self.now.tracer c.in_ok-drawn.ensures.prepared)
