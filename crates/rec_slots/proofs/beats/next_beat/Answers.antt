use Rattle.std.proofs.Common.{arith, to_z, of_z, ◌≡◌, ◌∙◌, Some, inl, inr, sym, ap, subst, suc}
use mir.Syntax.{w128}
use Rattle.std.proofs.lemmas.Int.{to_z-of_z}
use Rattle.std.proofs.lemmas.Result.{err_from_is_err_and}
use Rattle.rec_spans.specs.declared.settings.ChromeTraceGroupBy.TheVariants.{Slot}
use Rattle.rec_spans.specs.History.{TraceState, next_state, state_after}
use Rattle.rec_spans.specs.Judged.{IsJudged}
use Rattle.rec_spans.specs.Kinds.{history, trace_input}
use Rattle.rec_spans.specs.Plain.{plain}
use Rattle.rec_spans.specs.Positions.{past_at}
use Rattle.rec_spans.specs.Refusals.{next_refusal}
use Rattle.rec_slots.proofs.beats.next_beat.Goals as goal
use Rattle.rec_slots.proofs.EventsSeen.{alone-more, beat-is, single-more}
use Rattle.rec_slots.proofs.Histories.{accepted-here, input, past-length, past-more, refused-here}
use Rattle.rec_slots.specs.Beats.{IsNear, change_in}
use Rattle.rec_slots.specs.Seen.{seen}

pub returns-in_err-judged : goal.returns-in_err-judged
returns-in_err-judged c = λ events n is tracked.
    let p = err_from_is_err_and c.from_residual.result c.from_residual.ensures.1 in
    let e = plain c.args.event.now in
    let cause = c.in_err-judged.field-0.0 in
    rw (p.1, p.2) (elim c.in_err-judged.ensures.judged [
      | inl memory ↦ inl memory
      | inr refused ↦ inr (refused-here events n e is tracked.accepted cause
          (subst (λ (s : TraceState). next_refusal s (trace_input Slot s.binaries e) ≡ Some cause)
          tracked.state refused))
    ])

pub returns : goal.returns
returns c = λ events n is tracked.
    let e = plain c.args.event.now in
    let past = past_at (history Slot events) n in
    let judged : IsJudged (state_after past) (input events n e is) c.in_ok-judged.judged =
    subst (λ (s : TraceState). IsJudged s (trace_input Slot s.binaries e) c.in_ok-judged.judged)
    tracked.state c.in_ok-judged.ensures.known in
    let none = judged.accepted in
    let whole : to_z w128 (of_z w128 c.nanoseconds.result) ≡ c.nanoseconds.result =
    grind (arith, to_z-of_z) in (
      record {
        state =
            c.in_ok-commit.ensures.ok
            ∙ ap (λ (s : TraceState). next_state (trace_input Slot s.binaries e) s) tracked.state
            ∙ sym (ap state_after (past-more events n e is));
        accepted = accepted-here events n e is tracked.accepted none;
        single = single-more events n e is tracked.single tracked.alone none;
        alone = alone-more events n e is tracked.single tracked.alone none;
      },
      beat-is events n e is tracked.single tracked.alone none _
          (judged.numbered ∙ ap suc (past-length events n e is))
          (whole ∙ c.nanoseconds.ensures.value)
          (subst IsNear (sym whole) c.nanoseconds.ensures.near)
          (c.in_pause.ensures ∙ ap (λ (s : TraceState). s.in_pause) tracked.state)
          (c.change_of.ensures ∙ ap (λ spans. change_in spans (seen c.act_of.result))
          (c.open_spans.ensures ∙ ap (λ (s : TraceState). s.spans) tracked.state)
          ∙ ap (change_in (state_after past).spans) c.act_of.ensures),
    )
