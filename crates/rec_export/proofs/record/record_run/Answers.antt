use Rattle.std.proofs.Common.{◌≡◌, [], map, Ok, Err, subst, sym, inl}
use Rattle.std.proofs.lemmas.Result.{IfErr-weaker, IfOk-weaker}
use Rattle.rec_container.specs.Memory.{GrowingSinkState}
use Rattle.rec_store.specs.Recording.{Recording, Stores}
use Rattle.rec_store.specs.Store.{store_entries}
use Rattle.rec_spans.specs.Plain.{plain}
use Rattle.rec_export.proofs.record.record_run.Goals as goal
use Rattle.rec_export.proofs.Recorded.{always, begun, never, unknown}
use Rattle.rec_export.proofs.RecordedLines.{lines_with, made_with}
use Rattle.rec_export.specs.declared.discarding.DiscardingSink.{DiscardingSink}
use Rattle.rec_export.specs.declared.record.RecordedInMemory.{RecordedInMemory}
use Rattle.rec_export.specs.Session.{events_of}
use Rattle.rec_export.specs.SessionTraces.{IsTraceOf}

pub returns-in-Err-clause-err : goal.returns-in-Err-clause-err
returns-in-Err-clause-err g c =
    let number = g.N.OutputNamer.number in
    let namer = c.args.namer.now in
    let m = c.args.settings.now.max_output in
    let head = c.args.head.now in
    let start = c.record_head.new.recorder in
    let stored = subst (λ (r : Recording DiscardingSink GrowingSinkState g.row.N.Denot).
    Stores unknown never r start (store_entries head))
    c.new-recorder.ensures.made c.in-Ok.ensures.ok in
    let has = begun number unknown never head namer m (record {})
    c.new.result start c.new.ensures.bytes stored in
    lines_with number namer m head [] c.args.lines start c.record_lines.new.recorder
    (Err c.in-Err.error) has
    (c.in-Err.ensures.recorded head [] (made_with number namer m head [] start has))

pub returns-in-Ok-record_lines-clause-valid : goal.returns-in-Ok-record_lines-clause-valid
returns-in-Ok-record_lines-clause-valid g c =
    let number = g.N.OutputNamer.number in
    let namer = c.args.namer.now in
    let m = c.args.settings.now.max_output in
    let head = c.args.head.now in
    let start = c.record_head.new.recorder in
    let stored = subst (λ (r : Recording DiscardingSink GrowingSinkState g.row.N.Denot).
    Stores unknown never r start (store_entries head))
    c.new-recorder.ensures.made c.in-Ok.ensures.ok in
    let has = begun number unknown never head namer m (record {})
    c.new.result start c.new.ensures.bytes stored in
    let recorded =
    lines_with number namer m head [] c.args.lines start c.record_lines.new.recorder (Ok tt) has
    (c.in-Ok-record_lines.ensures.recorded head [] (made_with number namer m head [] start has)) in
    always c.end_run.result recorded.0

pub returns-in-Ok-record_lines-clause-run : goal.returns-in-Ok-record_lines-clause-run
returns-in-Ok-record_lines-clause-run g c =
    let number = g.N.OutputNamer.number in
    let namer = c.args.namer.now in
    let m = c.args.settings.now.max_output in
    let head = c.args.head.now in
    let start = c.record_head.new.recorder in
    let stored = subst (λ (r : Recording DiscardingSink GrowingSinkState g.row.N.Denot).
    Stores unknown never r start (store_entries head))
    c.new-recorder.ensures.made c.in-Ok.ensures.ok in
    let has = begun number unknown never head namer m (record {})
    c.new.result start c.new.ensures.bytes stored in
    let recorded =
    lines_with number namer m head [] c.args.lines start c.record_lines.new.recorder (Ok tt) has
    (c.in-Ok-record_lines.ensures.recorded head [] (made_with number namer m head [] start has)) in
    c.end_run.ensures.run namer m head (events_of c.args.lines) recorded.1

pub returns-in-Ok-record_lines-clause-too_large : goal.returns-in-Ok-record_lines-clause-too_large
returns-in-Ok-record_lines-clause-too_large g c =
    let number = g.N.OutputNamer.number in
    let namer = c.args.namer.now in
    let m = c.args.settings.now.max_output in
    let head = c.args.head.now in
    let start = c.record_head.new.recorder in
    let stored = subst (λ (r : Recording DiscardingSink GrowingSinkState g.row.N.Denot).
    Stores unknown never r start (store_entries head))
    c.new-recorder.ensures.made c.in-Ok.ensures.ok in
    let has = begun number unknown never head namer m (record {})
    c.new.result start c.new.ensures.bytes stored in
    let recorded =
    lines_with number namer m head [] c.args.lines start c.record_lines.new.recorder (Ok tt) has
    (c.in-Ok-record_lines.ensures.recorded head [] (made_with number namer m head [] start has)) in
    c.end_run.ensures.too_large namer m head (events_of c.args.lines) recorded.1

pub returns-in-Ok-record_lines-clause-traced : goal.returns-in-Ok-record_lines-clause-traced
returns-in-Ok-record_lines-clause-traced g c =
    let format = c.args.settings.now.message_format in
    let group_by = c.args.settings.now.group_by in
    let version = c.args.head.now.nextest_version in
    let events = map plain (events_of c.args.lines) in
    let traced =
    c.in-Ok-record_lines.ensures.traced format group_by version [] c.in_ok-trace.ensures in
    IfOk-weaker c.end_run.result (λ (r : RecordedInMemory). r.trace ≡ c.record_lines.new.trace)
    (λ (r : RecordedInMemory). IsTraceOf format group_by version events r.trace)
    (λ r same. subst (IsTraceOf format group_by version events) (sym same) traced)
    c.end_run.ensures.traced

pub returns-in-Ok-record_lines-clause-err : goal.returns-in-Ok-record_lines-clause-err
returns-in-Ok-record_lines-clause-err g c =
    IfErr-weaker c.end_run.result _ _ (λ e h. inl h) c.end_run.ensures.err
