use Rattle.rec_container.proofs.laws.one_reading.Goals as goal
use Rattle.rec_container.proofs.Unique.{one_reading_spec}

pub returns : goal.returns
returns c = one_reading_spec
