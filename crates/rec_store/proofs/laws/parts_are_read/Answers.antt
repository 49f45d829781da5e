use Rattle.rec_store.proofs.laws.parts_are_read.Goals as goal
use Rattle.rec_store.proofs.PartLaws.{parts_of_reading}

pub returns : goal.returns
returns c = parts_of_reading
