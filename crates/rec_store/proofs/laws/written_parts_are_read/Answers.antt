use Rattle.rec_store.proofs.laws.written_parts_are_read.Goals as goal
use Rattle.rec_store.proofs.WrittenRuns.{written_parts}

pub returns : goal.returns
returns c = written_parts
