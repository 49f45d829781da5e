use Rattle.std.proofs.Common.{◌≡◌, ℕ, Bool, List, Ok, Option, None, ap, refl, subst, sym, ◌∙◌}
use Rattle.std.proofs.Common.{inl, inr, ◌⊎◌}
use Rattle.std.proofs.lemmas.Result.{err_from_is_err_and}
use Rattle.rec_container.specs.Causes.{Rose}
use Rattle.rec_codec.specs.Lines.{NumberedLine, text_of}
use Rattle.rec_errors.specs.declared.export_error.RecordExportError.TheVariants.{
  OutOfMemory,
  ParseHead,
}
use Rattle.rec_export.specs.Bundle.{head_in, session_head}
use Rattle.rec_live_recording.proofs.Causes.{read_refused}
use Rattle.rec_live_recording.proofs.recording.next_head.Goals as goal
use Rattle.rec_live_recording.proofs.SessionRecorded.{head_of_first, head_unread, headless, no_head}
use Rattle.rec_live_recording.specs.LineReading.{ReadsLine}
use Rattle.rec_live_recording.specs.Refusals.{head_refusal}
use Rattle.rec_live_recording.specs.Session.{after_first_line}

pub returns-clause-read : goal.returns-clause-read
returns-clause-read g c = λ total text is.
    let read = subst (λ (b : Bool). ReadsLine g.I.Source.left total text c.args.lines.now
    c.read_line.new.self (Ok b)) c.if-not-branch.false
    (c.in_ok-read_line.ensures.read total text is) in
    (read.0, ap after_first_line read.1, read.3)

pub returns-in_err-read_line-clause-cause : goal.returns-in_err-read_line-clause-cause
returns-in_err-read_line-clause-cause g c = λ total text is.
    let faults = g.I.Source.faults in
    let old = c.args.lines.now in
    let new = c.read_line.new.self in
    let read = c.in_err-read_line.ensures in
    let p = err_from_is_err_and c.from_residual.result c.from_residual.ensures.1 in
    rw (p.1, p.2) (read_refused g.I.Source.left faults ⊥ ⊥ ⊥ ⊥ (head_refusal (session_head text)) ⊥
    (Rose (faults old.source) (faults new.source)) old.limit total text old new refl (λ x. x)
    c.in_err-read_line.field-0.0 read.cause (read.read total text is))

pub returns-then-not-branch-clause-cause : goal.returns-then-not-branch-clause-cause
returns-then-not-branch-clause-cause g c = λ total text is.
    let read = subst (λ (b : Bool). ReadsLine g.I.Source.left total text c.args.lines.now
    c.read_line.new.self (Ok b)) c.if-not-branch.true
    (c.in_ok-read_line.ensures.read total text is) in
    inr (inr (inl (headless (session_head text) (no_head text read.0))))

pub returns-in_err-read_head-clause-cause : goal.returns-in_err-read_head-clause-cause
returns-in_err-read_head-clause-cause g c = λ total text is.
    let faults = g.I.Source.faults in
    let old = c.args.lines.now in
    let new = c.read_line.new.self in
    let read = subst (λ (b : Bool). ReadsLine g.I.Source.left total text old new (Ok b))
    c.if-not-branch.false (c.in_ok-read_line.ensures.read total text is) in
    let line = c.text.ensures ∙ ap (λ (l : NumberedLine). text_of l.bytes) c.line-line.ensures in
    let e = c.in_err-read_head.field-0.0 in
    let p = err_from_is_err_and c.from_residual-in_err-read_head.result
    c.from_residual-in_err-read_head.ensures.1 in
    rw (p.1, p.2) (head_unread (Rose (faults old.source) (faults new.source)) old.limit total text
    new.line read.0 e read.1
    (subst (λ (t : Option (List ℕ)). (e ≡ OutOfMemory) ⊎ ((e ≡ ParseHead) × (head_in t ≡ None)))
    line c.in_err-read_head.ensures.err))

pub returns-clause-head : goal.returns-clause-head
returns-clause-head g c = λ total text is.
    let new = c.read_line.new.self in
    let read = subst (λ (b : Bool). ReadsLine g.I.Source.left total text c.args.lines.now new
    (Ok b)) c.if-not-branch.false (c.in_ok-read_line.ensures.read total text is) in
    let line = c.text.ensures ∙ ap (λ (l : NumberedLine). text_of l.bytes) c.line-line.ensures in
    head_of_first text new.line read.0 read.1 ∙ ap head_in (sym line)
    ∙ c.in_ok-read_head.ensures.head
