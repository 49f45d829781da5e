use Rattle.rec_store.proofs.Accepted.{none_accepted}
use Rattle.rec_store.proofs.recorder.RunRecorder.new.Goals as goal

pub returns-clause-accepted : goal.returns-clause-accepted
returns-clause-accepted g c =
    none_accepted g.S.Sink.taken g.L.Sink.taken g.N.OutputNamer.number c.new.result c.args.store
    c.args.log c.args.namer.now c.args.max_output_size c.new.ensures.entries c.new.ensures.sink
    c.new.ensures.failed
