use Rattle.rec_store.proofs.laws.accepted_is_stopped.Goals as goal
use Rattle.rec_store.proofs.LeftStopped.{accepted_stopped}

pub returns : goal.returns
returns g c = accepted_stopped g.S.Sink.taken g.L.Sink.taken g.N.OutputNamer.number
