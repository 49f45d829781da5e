use Rattle.std.proofs.Common.{List, [], ◌++◌, map, Ok, Err, ap, refl, sym, subst, append-nil, ◌∙◌}
use Rattle.std.proofs.lemmas.Result.{err_from_is_err_and}
use Rattle.std.specs.Option.{option_to_list}
use Rattle.rec_codec.specs.Event.{LiveEvent}
use Rattle.rec_codec.specs.Lines.{NumberedLine}
use Rattle.rec_codec.specs.LineView.{line_view}
use Rattle.rec_spans.specs.Plain.{PlainEvent, plain}
use Rattle.rec_export.proofs.LineBlocks.{first_of_all, none_first}
use Rattle.rec_export.proofs.record.record_lines.Goals as goal
use Rattle.rec_export.proofs.RecordedLines.{line_with, made_with, recorded_here, refused_here}
use Rattle.rec_export.proofs.SessionTraced.{plain_next}
use Rattle.rec_export.specs.Recorded.{HasRecorded, RecordsLines}
use Rattle.rec_export.specs.Session.{event_at, event_lines, events_of}
use Rattle.rec_export.specs.SessionTraces.{IsTraceOf}

pub loop-line-init : goal.loop-line-init
loop-line-init g c =
    record {
      sound = c.requires.sound;
      recorded = λ head events had. (events, had, λ r new all. all);
      traced = λ format group version before had. (before, had, refl);
    }

pub loop-line-preserved : goal.loop-line-preserved
loop-line-preserved g c = record {
  sound = c.in_ok-record_line.ensures.sound;
  recorded = λ head events had.
      let number = g.N.OutputNamer.number in
      let namer = c.args.recorder.now.namer in
      let m = c.args.recorder.now.max_output in
      let old = c.loop-line.recorder in
      let line = line_view c.in-Some.line in
      let rest = c.drop_first.new.self in
      let all = first_of_all c.loop-line.lines line rest c.in-Some.ensures c.drop_first.ensures in
      let before = c.loop-line.invariant.recorded head events had in
      let here = line_with number namer m head before.0 line old c.record_line.new.recorder
      (Ok c.in_ok-record_line.field-0) before.1
      (c.in_ok-record_line.ensures.recorded head before.0
      (made_with number namer m head before.0 old before.1)) in (
        before.0 ++ option_to_list (event_at line),
        here.1,
        λ r new after. before.2 r new
            (subst (λ (ls : List NumberedLine). RecordsLines number namer m head before.0 ls new r)
            (sym all)
            (recorded_here number namer m head before.0 line rest new r here.0 after)),
      );
  traced = λ format group version events had.
      let line = line_view c.in-Some.line in
      let rest = c.drop_first.new.self in
      let all = first_of_all c.loop-line.lines line rest c.in-Some.ensures c.drop_first.ensures in
      let before = c.loop-line.invariant.traced format group version events had in (
        before.0 ++ map plain (option_to_list (event_at line)),
        c.in_ok-record_line.ensures.traced format group version before.0 before.1,
        before.2
            ∙ ap (λ (ls : List NumberedLine). before.0 ++ map plain (events_of ls)) all
            ∙ plain_next before.0 (event_at line) (events_of rest),
      );
}

pub returns-clause-recorded : goal.returns-clause-recorded
returns-clause-recorded g c = λ head events had.
    let number = g.N.OutputNamer.number in
    let namer = c.args.recorder.now.namer in
    let m = c.args.recorder.now.max_output in
    let now = c.loop-line.recorder in
    let none_left = none_first c.loop-line.lines c.in_default.ensures in
    let before = c.loop-line.invariant.recorded head events had in
    let none : RecordsLines number namer m head before.0 [] now (Ok tt) = (
      refl,
      subst (λ (es : List LiveEvent). HasRecorded number namer m head es now)
          (sym (append-nil before.0)) before.1,
    ) in
    before.2 (Ok tt) now
    (subst (λ (ls : List NumberedLine). RecordsLines number namer m head before.0 ls now (Ok tt))
    (sym none_left) none)

pub returns-clause-traced : goal.returns-clause-traced
returns-clause-traced g c = λ format group version events had.
    let before = c.loop-line.invariant.traced format group version events had in
    let none_left = none_first c.loop-line.lines c.in_default.ensures in
    let all =
    before.2 ∙ ap (λ (ls : List NumberedLine). before.0 ++ map plain (events_of ls)) none_left
    ∙ append-nil before.0 in
    subst (λ (es : List PlainEvent). IsTraceOf format group version es c.loop-line.trace) (sym all)
    before.1

pub returns-in_err-record_line-clause-recorded : goal.returns-in_err-record_line-clause-recorded
returns-in_err-record_line-clause-recorded g c = λ head events had.
    let number = g.N.OutputNamer.number in
    let namer = c.args.recorder.now.namer in
    let m = c.args.recorder.now.max_output in
    let old = c.loop-line.recorder in
    let line = line_view c.in-Some.line in
    let rest = event_lines c.loop-line.lines in
    let new = c.record_line.new.recorder in
    let e = c.in_err-record_line.field-0.0 in
    let all = first_of_all c.loop-line.lines line rest c.in-Some.ensures refl in
    let before = c.loop-line.invariant.recorded head events had in
    let here = line_with number namer m head before.0 line old new (Err e) before.1
    (c.in_err-record_line.ensures.recorded head before.0
    (made_with number namer m head before.0 old before.1)) in
    let p = err_from_is_err_and c.from_residual.result c.from_residual.ensures.1 in
    rw (p.1, p.2) (before.2 (Err e) new (subst
    (λ (ls : List NumberedLine). RecordsLines number namer m head before.0 ls new (Err e)) (sym all)
    (refused_here number namer m head before.0 line rest new e here)))
