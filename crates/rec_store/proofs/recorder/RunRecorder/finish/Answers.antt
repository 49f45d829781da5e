use Rattle.std.proofs.Common.{◌≡◌, ℕ, ◌≤◌, [], subst}
use Rattle.rec_container.specs.Container.{AreFrom}
use Rattle.rec_store.proofs.LeftStopped.{ended_seen, unended_seen}
use Rattle.rec_store.proofs.recorder.RunRecorder.finish.Goals as goal
use Rattle.rec_store.specs.Recording.{Recording}

-- a recorder as it is seen
module _ {S L N : Type 0} where
  sound_seen : (seen is : Recording S L N) → seen ≡ is → AreFrom [] seen.store.entries
      → AreFrom [] is.store.entries
  sound_seen seen is same h = subst (λ (r : Recording S L N). AreFrom [] r.store.entries) same h

  later_seen : (faults : S → ℕ) (seen is : Recording S L N) → seen ≡ is → (sink : S)
      → faults seen.store.sink ≤ faults sink → faults is.store.sink ≤ faults sink
  later_seen faults seen is same sink h =
      subst (λ (r : Recording S L N). faults r.store.sink ≤ faults sink) same h

pub returns-then-failed-clause-stopped : goal.returns-then-failed-clause-stopped
returns-then-failed-clause-stopped g c =
    unended_seen g.S.Sink.taken g.L.Sink.taken g.N.OutputNamer.number _ c.args.self c.self.view_is
    c.into_sink.result c.into_sink.ensures.sink

pub returns-clause-stopped : goal.returns-clause-stopped
returns-clause-stopped g c =
    ended_seen g.S.Sink.taken g.L.Sink.taken g.N.OutputNamer.number _ c.args.self c.self.view_is
    g.S.Sink.faults c.finish-end.result.sink c.finish-end.result.result
    (c.is_failed-failed.ensures.store c.if-failed.false)
    c.finish-end.ensures.ok c.finish-end.ensures.refused

pub returns-then-failed-clause-sound : goal.returns-then-failed-clause-sound
returns-then-failed-clause-sound g c =
    sound_seen _ c.args.self c.self.view_is c.into_sink.ensures.entries

pub returns-clause-sound : goal.returns-clause-sound
returns-clause-sound g c = sound_seen _ c.args.self c.self.view_is c.finish-end.ensures.entries

pub returns-clause-later : goal.returns-clause-later
returns-clause-later g c =
    later_seen g.S.Sink.faults _ c.args.self c.self.view_is c.finish-end.result.sink
    c.finish-end.ensures.later
