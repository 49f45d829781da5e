use Rattle.std.proofs.Common.{◌≡◌, ◌+◌, [], ◌++◌, length, Option, Result, IfOk, ap, subst, sym}
use Rattle.std.proofs.Common.{inl, inr, ⊎_elim, arith}
use Rattle.std.specs.Option.{option_to_list}
use Rattle.rec_events.specs.declared.outputs.LiveSpec.{LiveSpec}
use Rattle.rec_codec.specs.declared.line_events.LineError.{LineError}
use Rattle.rec_codec.specs.Event.{LiveEvent}
use Rattle.rec_codec.specs.EventForms.{event_form}
use Rattle.rec_codec.specs.LineEvents.{AnswersEvent}
use Rattle.rec_codec.specs.Lines.{text_of}
use Rattle.rec_codec.specs.LineView.{line_view}
use Rattle.rec_codec.specs.Live.{live_form}
use Rattle.rec_store.specs.Bundle.{outputs_stored}
use Rattle.rec_errors.specs.declared.export_error.RecordExportError.{RecordExportError}
use Rattle.rec_export.proofs.RecordedLines.{blank_line, event_is_loaded, line_of_event}
use Rattle.rec_export.proofs.RecordedLines.{line_of_fault}
use Rattle.rec_export.specs.Session.{event_at, line_refusal}
use Rattle.rec_live_recording.proofs.recording.record_line.Goals as goal
use Rattle.rec_live_recording.specs.Live.{RecordsNext}
use Rattle.rec_live_recording.specs.Recorder.{RecordsMore, event_collision}
use Rattle.rec_live_recording.specs.Refusals.{IsLineRefused, Overflows}

pub record_event-requires-clause-loaded : goal.record_event-requires-clause-loaded
record_event-requires-clause-loaded g c =
    let text = text_of c.args.line.bytes.now in
    let read = subst (λ (r : Result LiveEvent LineError).
    AnswersEvent (event_form {S = LiveSpec} live_form) r c.args.line.number text)
    c.in-Some-Ok.field-0-is c.in-Some-Ok.ensures.1 in
    event_is_loaded text c.in-Some-Ok.event read

pub returns-in-Some-Ok-clause-kept : goal.returns-in-Some-Ok-clause-kept
returns-in-Some-Ok-clause-kept g c = λ before events later h is.
    let text = text_of c.args.line.bytes.now in
    let read = subst (λ (r : Result LiveEvent LineError).
    AnswersEvent (event_form {S = LiveSpec} live_form) r c.args.line.number text)
    c.in-Some-Ok.field-0-is c.in-Some-Ok.ensures.1 in
    let event = line_of_event (λ b. 0) 0 [] 0 text c.in-Some-Ok.event c.in-Some-Ok.ensures.0 read in
    subst (λ (next : Option LiveEvent). RecordsNext g.S.Sink.taken g.L.Sink.taken g.O.Sink.taken
    g.N.OutputNamer.number before events next later c.record_event.result
    c.record_event.new.recorder c.record_event.new.out)
    (sym event.1) (c.record_event.ensures.kept before events later h is)

pub returns-in-Some-Ok-clause-counted : goal.returns-in-Some-Ok-clause-counted
returns-in-Some-Ok-clause-counted g c =
    let text = text_of c.args.line.bytes.now in
    let read = subst (λ (r : Result LiveEvent LineError).
    AnswersEvent (event_form {S = LiveSpec} live_form) r c.args.line.number text)
    c.in-Some-Ok.field-0-is c.in-Some-Ok.ensures.1 in
    let event = line_of_event (λ b. 0) 0 [] 0 text c.in-Some-Ok.event c.in-Some-Ok.ensures.0 read in
    subst (λ (next : Option LiveEvent). IfOk c.record_event.result
    (λ n. n ≡ c.args.count + length (option_to_list next)))
    (sym event.1) c.record_event.ensures.counted

pub returns-in-None-clause-counted : goal.returns-in-None-clause-counted
returns-in-None-clause-counted g c =
    let blank = blank_line (λ b. 0) 0 [] 0 (text_of c.args.line.bytes.now) c.in-None.ensures in
    let none = ap (λ (next : Option LiveEvent). length (option_to_list next)) blank.1 in
    omega (arith, none)

pub returns-in-Some-Ok-clause-recorded : goal.returns-in-Some-Ok-clause-recorded
returns-in-Some-Ok-clause-recorded g c = λ namer m head events has is.
    let number = g.N.OutputNamer.number in
    let text = text_of c.args.line.bytes.now in
    let read = subst (λ (r : Result LiveEvent LineError).
    AnswersEvent (event_form {S = LiveSpec} live_form) r c.args.line.number text)
    c.in-Some-Ok.field-0-is c.in-Some-Ok.ensures.1 in
    let event = line_of_event (number namer) m (outputs_stored (number namer) m events)
    c.args.line.number text c.in-Some-Ok.event c.in-Some-Ok.ensures.0 read in
    subst (λ (refusal : Option RecordExportError). RecordsMore g.S.Sink.faults g.L.Sink.faults
    number namer m head events (event_at (line_view c.args.line)) refusal c.args.recorder.now
    c.record_event.new.recorder (g.O.Sink.faults c.args.out.now)
    (g.O.Sink.faults c.record_event.new.out) c.record_event.result)
    (sym event.0) (subst (λ (next : Option LiveEvent). RecordsMore g.S.Sink.faults
    g.L.Sink.faults number namer m head events next
    (event_collision (number namer) m events c.in-Some-Ok.event) c.args.recorder.now
    c.record_event.new.recorder (g.O.Sink.faults c.args.out.now)
    (g.O.Sink.faults c.record_event.new.out) c.record_event.result)
    (sym event.1) (c.record_event.ensures.recorded namer m head events has is))

pub returns-in-Some-Err-clause-recorded : goal.returns-in-Some-Err-clause-recorded
returns-in-Some-Err-clause-recorded g c = λ namer m head events has is.
    let number = g.N.OutputNamer.number namer in
    let text = text_of c.args.line.bytes.now in
    let misses = subst (λ (r : Result LiveEvent LineError).
    AnswersEvent (event_form {S = LiveSpec} live_form) r c.args.line.number text)
    c.in-Some-Err.field-0-is c.in-Some-Err.ensures.1 in
    let refusal = line_refusal number m (outputs_stored number m events)
    (line_view c.args.line) in
    let overflows = Overflows number m head
    (events ++ option_to_list (event_at (line_view c.args.line))) in
    subst (IsLineRefused refusal overflows) (sym c.from.ensures)
    (⊎_elim (λ none. inr (inr none)) (λ refused. inl refused)
    (line_of_fault number m (outputs_stored number m events) c.args.line.number
    c.in-Some-Err.fault text c.in-Some-Err.ensures.0 misses))
