use Rattle.rec_store.proofs.Logged.{stored_as_seen}
use Rattle.rec_store.proofs.recorder.RunRecorder.store_event.Goals as goal

pub returns-clause-stored : goal.returns-clause-stored
returns-clause-stored g c =
    stored_as_seen
    g.S.Sink.taken
    g.S.Sink.faults
    g.N.OutputNamer.number
    _
    c.args.self.now
    c.store_event.new.store
    c.args.event
    c.store_event.result
    c.self.view_is
    c.requires.sound
    c.store_event.ensures.stored
