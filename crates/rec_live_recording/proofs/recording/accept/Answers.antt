use Rattle.std.proofs.Common.{Err, Some, subst, sym}
use Rattle.std.specs.Bool.{⊤}
use Rattle.rec_store.proofs.Accepted.{paths_stay}
use Rattle.rec_store.specs.Saved.{required_paths}
use Rattle.rec_export.proofs.RecorderFaults.{event_comes}
use Rattle.rec_live_recording.proofs.EventsRecorded.{event_recorded_after, event_unrecorded}
use Rattle.rec_live_recording.proofs.Recorded.{sound_logged}
use Rattle.rec_live_recording.proofs.recording.accept.Goals as goal
use Rattle.rec_live_recording.specs.declared.errors.LiveError.{LiveError}
use Rattle.rec_live_recording.specs.Recorder.{RecordsMore, event_collision}

pub store_fault-requires : goal.store_fault-requires
store_fault-requires g c =
    event_comes g.S.Sink.taken g.S.Sink.faults c.args.recorder.now c.write_event.new.self
    c.requires.sound g.L.Sink.taken g.L.Sink.faults g.N.OutputNamer.number c.args.event
    c.requires.loaded c.in-Err.error c.in-Err.ensures.err

pub returns-in-Ok-clause-sound : goal.returns-in-Ok-clause-sound
returns-in-Ok-clause-sound g c =
    sound_logged g.S.Sink.taken g.S.Sink.faults g.L.Sink.taken g.L.Sink.faults
    g.N.OutputNamer.number c.args.recorder.now c.write_event.new.self c.args.event
    c.in-Ok.ensures.ok

pub returns-in-Ok-clause-accepted : goal.returns-in-Ok-clause-accepted
returns-in-Ok-clause-accepted g c = record {
  accepted = λ events h. c.in-Ok.ensures.accepted events h;
  metadata = λ h. paths_stay c.args.recorder.now.store c.write_event.new.self.store required_paths
      c.in-Ok.ensures.entries h;
}

pub returns-in-Err-clause-accepted : goal.returns-in-Err-clause-accepted
returns-in-Err-clause-accepted g c = record {
  accepted = λ events h. c.in-Err.ensures.accepted events h;
  metadata = λ h. paths_stay c.args.recorder.now.store c.write_event.new.self.store required_paths
      c.in-Err.ensures.entries h;
}

pub returns-in-Ok-clause-recorded : goal.returns-in-Ok-clause-recorded
returns-in-Ok-clause-recorded g c = λ namer m head events has.
    event_recorded_after g.S.Sink.taken g.S.Sink.faults g.L.Sink.taken g.L.Sink.faults
    g.N.OutputNamer.number head events c.args.event namer m c.args.recorder.now
    c.write_event.new.self c.requires.sound has c.in-Ok.ensures.ok c.in-Ok.ensures.logged
    c.in-Ok.ensures.later

pub returns-in-Err-clause-recorded : goal.returns-in-Err-clause-recorded
returns-in-Err-clause-recorded g c = λ namer m head events has.
    subst (λ (e : LiveError). RecordsMore g.S.Sink.faults g.L.Sink.faults g.N.OutputNamer.number
    namer m head {T = ⊤} events (Some c.args.event)
    (event_collision (g.N.OutputNamer.number namer) m events c.args.event) c.args.recorder.now
    c.write_event.new.self 0 0 (Err e))
    (sym c.store_fault.ensures)
    (event_unrecorded g.S.Sink.taken g.S.Sink.faults g.L.Sink.taken g.L.Sink.faults
    g.N.OutputNamer.number head events c.args.event namer m c.args.recorder.now
    c.write_event.new.self c.requires.sound has c.in-Err.error c.in-Err.ensures.err)
