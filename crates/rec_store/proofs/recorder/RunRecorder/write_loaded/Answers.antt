use Rattle.rec_store.proofs.Logged.{logged}
use Rattle.rec_store.proofs.recorder.RunRecorder.write_loaded.Goals as goal

pub returns : goal.returns
returns g c =
    let stored = c.in_ok-recorded.ensures.stored in
    logged
    g.S.Sink.taken
    g.S.Sink.faults
    g.L.Sink.taken
    g.L.Sink.faults
    g.N.OutputNamer.number
    c.args.self.now
    c.store_event.new.self
    c.append_event-result.new.self
    c.args.event
    c.in_ok-recorded.recorded
    c.append_event-result.result
    c.store_event.ensures.kept
    stored.0
    stored.1
    c.append_event-result.ensures
