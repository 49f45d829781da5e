use Rattle.rec_store.proofs.laws.resolved_stay.Goals as goal
use Rattle.rec_store.proofs.WrittenRuns.{events_stay}

pub returns : goal.returns
returns c = events_stay
