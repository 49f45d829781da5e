use Rattle.std.proofs.Common.{[], ◌++◌, map, Option, Result, Some, OnOk, subst, sym}
use Rattle.std.proofs.lemmas.Result.{err_from_is_err_and}
use Rattle.std.specs.Option.{option_to_list}
use Rattle.rec_codec.specs.declared.line_events.LineError.{LineError}
use Rattle.rec_codec.specs.Event.{LiveEvent}
use Rattle.rec_codec.specs.EventForms.{event_form}
use Rattle.rec_codec.specs.LineEvents.{Answers}
use Rattle.rec_codec.specs.Lines.{text_of}
use Rattle.rec_codec.specs.LineView.{line_view}
use Rattle.rec_codec.specs.Live.{live_form}
use Rattle.rec_store.specs.Bundle.{outputs_stored}
use Rattle.rec_spans.specs.Plain.{plain}
use Rattle.rec_export.proofs.record.record_line.Goals as goal
use Rattle.rec_export.proofs.RecordedLines.{event_is_loaded, line_of_event}
use Rattle.rec_export.proofs.RecordedLines.{line_of_fault, line_recorded}
use Rattle.rec_export.specs.SessionTraces.{IsTraceOf}

pub record_event-requires-clause-loaded : goal.record_event-requires-clause-loaded
record_event-requires-clause-loaded g c =
    let text = text_of c.args.line.bytes.now in
    let answered = subst (λ (r : Result LiveEvent LineError).
    Answers (event_form live_form) (Some r) c.args.line.number text)
    c.in_ok-event-in-Some.was c.in-Some.ensures in
    event_is_loaded text c.in_ok-event-in-Some.field-0 answered.1

pub returns-in_err-event-in-Some-clause-recorded : goal.returns-in_err-event-in-Some-clause-recorded
returns-in_err-event-in-Some-clause-recorded g c = λ head events has.
    let number = g.N.OutputNamer.number c.args.recorder.now.namer in
    let m = c.args.recorder.now.max_output in
    let text = text_of c.args.line.bytes.now in
    let answered = subst (λ (r : Result LiveEvent LineError).
    Answers (event_form live_form) (Some r) c.args.line.number text)
    c.in_err-event-in-Some.was c.in-Some.ensures in
    let p = err_from_is_err_and c.from_residual.result c.from_residual.ensures.1 in
    rw (p.1, p.2) (line_of_fault number m (outputs_stored number m events)
    c.args.line.number c.in_err-event-in-Some.field-0.0 text answered.0 answered.1)

pub returns-in_ok-event-in-Some-clause-recorded : goal.returns-in_ok-event-in-Some-clause-recorded
returns-in_ok-event-in-Some-clause-recorded g c = λ head events has.
    let number = g.N.OutputNamer.number c.args.recorder.now.namer in
    let m = c.args.recorder.now.max_output in
    let text = text_of c.args.line.bytes.now in
    let event = c.in_ok-event-in-Some.field-0 in
    let answered = subst (λ (r : Result LiveEvent LineError).
    Answers (event_form live_form) (Some r) c.args.line.number text)
    c.in_ok-event-in-Some.was c.in-Some.ensures in
    let line = line_of_event number m (outputs_stored number m events)
    c.args.line.number text event answered.0 answered.1 in
    line_recorded g.N.OutputNamer.number c.args.recorder.now.namer m head events event
    (line_view c.args.line) c.record_event.new.recorder line.0 line.1 c.record_event.result
    (c.record_event.ensures.recorded head events has)

pub returns-in_ok-event-in-Some-clause-traced : goal.returns-in_ok-event-in-Some-clause-traced
returns-in_ok-event-in-Some-clause-traced g c = λ format group version before had.
    let number = g.N.OutputNamer.number c.args.recorder.now.namer in
    let m = c.args.recorder.now.max_output in
    let text = text_of c.args.line.bytes.now in
    let event = c.in_ok-event-in-Some.field-0 in
    let answered = subst (λ (r : Result LiveEvent LineError).
    Answers (event_form live_form) (Some r) c.args.line.number text)
    c.in_ok-event-in-Some.was c.in-Some.ensures in
    let line = line_of_event number m [] c.args.line.number text event answered.0 answered.1 in
    subst (λ (o : Option LiveEvent). OnOk c.record_event.result (IsTraceOf format group version
    (before ++ map plain (option_to_list o)) c.record_event.new.trace))
    (sym line.1) (c.record_event.ensures.traced format group version before had)
