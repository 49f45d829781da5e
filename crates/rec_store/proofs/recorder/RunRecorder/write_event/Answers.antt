use Rattle.std.proofs.Common.{◌∙◌, inl, inr, refl, sym}
use Rattle.rec_store.proofs.Accepted.{event_accepted}
use Rattle.rec_store.proofs.Counts.{counts_logged, counts_same}
use Rattle.rec_store.proofs.Growing.{keeps_logged, keeps_same, outputs_stand}
use Rattle.rec_store.proofs.recorder.RunRecorder.write_event.Goals as goal

pub returns-clause-entries : goal.returns-clause-entries
returns-clause-entries g c =
    keeps_logged
    g.S.Sink.taken
    g.S.Sink.faults
    g.L.Sink.taken
    g.L.Sink.faults
    g.N.OutputNamer.number
    c.args.self.now
    c.write_loaded.new.self
    c.args.event
    c.write_loaded.result
    c.write_loaded.ensures

pub returns-clause-outputs : goal.returns-clause-outputs
returns-clause-outputs g c =
    outputs_stand
    g.S.Sink.taken
    g.S.Sink.faults
    g.L.Sink.taken
    g.L.Sink.faults
    g.N.OutputNamer.number
    c.args.self.now
    c.write_loaded.new.self
    c.args.event
    c.write_loaded.result
    (c.is_failed.ensures.store c.if-is_failed.false)
    c.write_loaded.ensures

pub returns-clause-later : goal.returns-clause-later
returns-clause-later g c =
    counts_logged
    g.S.Sink.taken
    g.S.Sink.faults
    g.L.Sink.taken
    g.L.Sink.faults
    g.N.OutputNamer.number
    c.args.self.now
    c.write_loaded.new.self
    c.args.event
    c.write_loaded.result
    c.write_loaded.ensures

pub returns-clause-accepted : goal.returns-clause-accepted
returns-clause-accepted g c =
    event_accepted
    g.S.Sink.taken
    g.S.Sink.faults
    g.L.Sink.taken
    g.N.OutputNamer.number
    g.L.Sink.faults
    c.args.self.now
    c.write_loaded.new.self
    c.args.event
    c.write_loaded.result
    (sym c.is_failed.ensures.value ∙ c.if-is_failed.false)
    c.write_loaded.ensures

pub returns-then-is_failed : goal.returns-then-is_failed
returns-then-is_failed g c = record {
  ok = tt;
  logged = tt;
  err = inl (refl, sym c.is_failed.ensures.value ∙ c.if-is_failed.true, refl);
  entries = keeps_same c.args.self.now.store c.args.self.now.store refl;
  later = counts_same g.S.Sink.faults g.L.Sink.faults c.args.self.now c.args.self.now refl;
  outputs = tt;
  accepted = λ _ h. h;
}

pub returns-then-not-has_all_outputs : goal.returns-then-not-has_all_outputs
returns-then-not-has_all_outputs g c = record {
  ok = tt;
  logged = tt;
  err = inr (inl (
    refl,
    sym c.is_failed.ensures.value ∙ c.if-is_failed.false,
    sym c.has_all_outputs.ensures ∙ c.if-not-has_all_outputs.true,
    refl,
  ));
  entries = keeps_same c.args.self.now.store c.args.self.now.store refl;
  later = counts_same g.S.Sink.faults g.L.Sink.faults c.args.self.now c.args.self.now refl;
  outputs = tt;
  accepted = λ _ h. h;
}
