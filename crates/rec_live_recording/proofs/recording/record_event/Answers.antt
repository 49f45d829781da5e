use Rattle.std.proofs.Common.{rules, ◌≡◌, ℕ, ◌+◌, ◌^◌, ◌≤◌, Some, Result, ap, subst, sym, ◌∙◌}
use Rattle.std.proofs.Common.{refl, inl, inr}
use Rattle.std.proofs.lemmas.Result.{err_from_is_err_and}
use Rattle.rec_live_recording.proofs.EventsRecorded.{uncountable}
use Rattle.rec_live_recording.proofs.Recorded.{records_event, records_refused}
use Rattle.rec_live_recording.proofs.recording.record_event.Goals as goal
use Rattle.rec_live_recording.specs.declared.errors.LiveError.{LiveError}
use Rattle.rec_live_recording.specs.Live.{RecordsNext}

pub returns-in_err-accept-clause-kept : goal.returns-in_err-accept-clause-kept
returns-in_err-accept-clause-kept g c = λ before events later h is.
    let e = c.in_err-accept.field-0.0 in
    let p = err_from_is_err_and c.from_residual.result c.from_residual.ensures.1 in
    subst (λ (r : Result ℕ LiveError). RecordsNext g.S.Sink.taken g.L.Sink.taken g.O.Sink.taken
    g.N.OutputNamer.number before events (Some c.args.event) later r c.accept.new.recorder
    c.args.out.now)
    (sym p.1) (records_refused g.S.Sink.taken g.L.Sink.taken g.O.Sink.taken
    g.N.OutputNamer.number before events later c.args.event c.args.recorder.now
    c.accept.new.recorder c.args.out.now c.args.out.now h e p.0 c.in_err-accept.ensures.accepted)

pub returns-clause-kept : goal.returns-clause-kept
returns-clause-kept g c = λ before events later h is.
    let next : c.in-Some.count ≡ c.args.count + 1 = search rules in
    records_event g.S.Sink.taken g.L.Sink.taken g.O.Sink.taken g.N.OutputNamer.number before events
    later c.args.event c.args.recorder.now c.accept.new.recorder c.args.out.now
    c.acknowledge.new.out h g.O.Sink.faults c.in-Some.count (next ∙ ap (λ n. n + 1) is)
    c.in_ok-accept.ensures.accepted c.in_ok-acknowledge.ensures

pub returns-in_default-clause-recorded : goal.returns-in_default-clause-recorded
returns-in_default-clause-recorded g c = λ namer m head events has is.
    let long : 2 ^ 64 ≤ c.args.count + 1 = search rules in
    inr (inl (
      refl,
      inl (uncountable (g.N.OutputNamer.number namer) m events c.args.event
          c.args.count is long),
    ))
