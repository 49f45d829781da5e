use Rattle.rec_store.proofs.laws.parts_back.Goals as goal
use Rattle.rec_store.proofs.WrittenRuns.{read_back}

pub returns : goal.returns
returns c = read_back
