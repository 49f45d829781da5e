use Rattle.std.proofs.Common.{◌≡◌, ◌⊎◌, List, ◌∙◌, ap, sym, subst, inl, inr, length, map}
use Rattle.std.proofs.Common.{Option, Some, None, Result, Ok, Err, IfOk, IfErr, OnOk}
use Rattle.std.proofs.lemmas.Result.{err_from_is_err_and}
use Rattle.rec_codec.specs.Event.{LiveEvent}
use Rattle.rec_store.specs.Bundle.{outputs_stored, run_bundle}
use Rattle.rec_store.specs.Reading.{IsReading, recorded}
use Rattle.rec_spans.specs.Plain.{plain}
use Rattle.rec_spans.specs.Refusals.{events_refusal}
use Rattle.rec_trace.specs.PrintedTimeline.{PrintsTimeline}
use Rattle.rec_errors.specs.declared.export_error.RecordExportError.TheVariants.{OutOfMemory}
use Rattle.rec_errors.specs.declared.export_error.RecordExportError.{RecordExportError}
use Rattle.rec_export.proofs.Judging.{after_head, events_after, refused_head}
use Rattle.rec_export.proofs.prepare.prepare.Goals as goal
use Rattle.rec_export.proofs.TimelinesDrawn.{draws_timeline}
use Rattle.rec_export.specs.Bundle.{head_in, refusal_after, session_events}
use Rattle.rec_export.specs.Prepared.{prepared_bundle}
use Rattle.rec_export.specs.Session.{event_lines, events_of, head_text}
use Rattle.rec_export.specs.SessionTraces.{run_trace}

-- six facts of an answer make a seventh
joined : {T E V W : Type 0} {P Q A B R : T → Type 0} (r : Result T E)
    → ((x : T) → P x → Q x → A x → B x → V → W → R x)
    → IfOk r P → IfOk r Q → IfOk r A → IfOk r B → OnOk r V → OnOk r W → IfOk r R
joined (Ok x) f p q a b v w = f x p q a b v w
joined (Err e) f p q a b v w = tt

-- four facts make a fifth
counted : {T E : Type 0} {P Q A V R : T → Type 0} (r : Result T E)
    → ((x : T) → P x → Q x → A x → V x → R x) → IfOk r P → IfOk r Q → IfOk r A → IfOk r V → IfOk r R
counted (Ok x) f p q a v = f x p q a v
counted (Err e) f p q a v = tt

pub returns-in_err-head-clause-err : goal.returns-in_err-head-clause-err
returns-in_err-head-clause-err g c =
    let text = c.head_line.ensures ∙ ap head_text c.in_ok-lines.ensures in
    let p =
    err_from_is_err_and c.from_residual-in_err-head.result c.from_residual-in_err-head.ensures.1 in
    rw (p.1, p.2) (let r = c.in_err-head.ensures.err in elim r [
      | inl h ↦ inl h
      | inr h ↦ inr (refused_head (g.N.OutputNamer.number c.args.namer.now) c.args.settings.now
          c.args.session.items (ap head_in (sym text) ∙ h.1) ∙ ap Some (sym h.0))
    ])

pub returns-clause-texts : goal.returns-clause-texts
returns-clause-texts g c =
    let number = g.N.OutputNamer.number c.args.namer.now in
    let settings = c.args.settings.now in
    let session = c.args.session.items in
    let head = c.in_ok-head.head in
    let text = c.head_line.ensures ∙ ap head_text c.in_ok-lines.ensures in
    let has_head = ap head_in (sym text) ∙ c.in_ok-head.ensures.head in
    let lines = c.drop_first.ensures ∙ ap event_lines c.in_ok-lines.ensures in
    let events = ap events_of lines ∙ events_after session in
    joined c.prepare_run-result.result
    (λ prepared spelled reads traced printed valid accepted. record {
      head = head;
      has_head = has_head;
      valid =
          after_head number settings session head has_head
          ∙ ap (refusal_after number settings (Some head)) (sym lines) ∙ valid;
      spelled = spelled ∙ ap (run_bundle number settings.max_output head) events;
      reads =
          subst (λ (es : List LiveEvent).
          IsReading (prepared_bundle prepared) (recorded number settings.max_output head es))
          events reads;
      traced = traced ∙ ap (run_trace settings head) events;
      drawn =
          draws_timeline head.nextest_version settings.group_by (map plain (session_events session))
          (subst (λ (es : List LiveEvent). events_refusal settings.group_by (map plain es) ≡ None)
          events accepted);
      printed =
          subst (λ (es : List LiveEvent).
          PrintsTimeline head.nextest_version settings.group_by (map plain es) prepared.trace.items)
          events printed;
    }) c.prepare_run-result.ensures.bundle
    (c.prepare_run-result.ensures.reads c.in_ok-head.ensures.known)
    c.prepare_run-result.ensures.trace c.prepare_run-result.ensures.printed
    c.prepare_run-result.ensures.valid c.prepare_run-result.ensures.accepted

pub returns-clause-counts : goal.returns-clause-counts
returns-clause-counts g c =
    let number = g.N.OutputNamer.number c.args.namer.now in
    let m = c.args.settings.now.max_output in
    let lines = c.drop_first.ensures ∙ ap event_lines c.in_ok-lines.ensures in
    let events = ap events_of lines ∙ events_after c.args.session.items in
    let made = c.prepare_run-result in
    counted made.result (λ p counted stored bundle trace. record {
      events = counted ∙ ap length events;
      outputs = stored ∙ ap (λ (es : List LiveEvent). length (outputs_stored number m es)) events;
      bundle_bytes = bundle;
      trace_bytes = trace;
    }) made.ensures.events made.ensures.outputs made.ensures.bundle_bytes made.ensures.trace_bytes

pub returns-clause-err : goal.returns-clause-err
returns-clause-err g c =
    let number = g.N.OutputNamer.number c.args.namer.now in
    let settings = c.args.settings.now in
    let head = c.in_ok-head.head in
    let text = c.head_line.ensures ∙ ap head_text c.in_ok-lines.ensures in
    let has_head = ap head_in (sym text) ∙ c.in_ok-head.ensures.head in
    let lines = c.drop_first.ensures ∙ ap event_lines c.in_ok-lines.ensures in
    let same = ap (refusal_after number settings (Some head)) lines
    ∙ sym (after_head number settings c.args.session.items head has_head) in
    subst (λ (o : Option RecordExportError).
    IfErr c.prepare_run-result.result (λ e. (e ≡ OutOfMemory) ⊎ (o ≡ Some e)))
    same c.prepare_run-result.ensures.err
