use Rattle.rec_spans.specs.Plain.{plain}
use Rattle.rec_trace.proofs.builder.Handing.trace_event.Goals as goal
use Rattle.rec_trace.proofs.HandedOn.{handed, not-drawn, unchanged}
use Rattle.rec_trace.specs.Steps.{seen_by}

pub returns-then-self-clause-processed : goal.returns-then-self-clause-processed
returns-then-self-clause-processed g c = λ k version events has. has

pub returns-in-Ok-clause-processed : goal.returns-in-Ok-clause-processed
returns-in-Ok-clause-processed g c = λ k version events has.
    handed g.T.TraceTarget.holds k version events (plain c.args.event.now) c.args.self.now.tracer
    has c.hand_on.new.self c.args.target.now c.hand_on.new.target _ c.hand_on.result
    c.in-Ok.ensures.judged c.in-Ok.ensures.drawn
    (c.hand_on.ensures.handed c.args.self.now.tracer c.in-Ok.ensures.prepared)

pub returns-in-Err-clause-processed : goal.returns-in-Err-clause-processed
returns-in-Err-clause-processed g c = λ k version events has.
    rw c.build_error.ensures
    (not-drawn g.T.TraceTarget.holds k version events (plain c.args.event.now)
    c.args.self.now.tracer has (record c.args.self.now { tracer = c.prepare.new.self })
    c.args.target.now c.in-Err.ensures.err _ c.in-Err.ensures.judged)

pub returns-in-Err-clause-answers : goal.returns-in-Err-clause-answers
returns-in-Err-clause-answers g c =
    let tracer = c.args.self.now.tracer in
    rw c.build_error.ensures
    (unchanged tracer.tracker (seen_by tracer (plain c.args.event.now)) c.args.self.now
    (record c.args.self.now { tracer = c.prepare.new.self }) c.args.target.now c.if-self.false
    c.if-self.false _ c.in-Err.ensures.judged)
