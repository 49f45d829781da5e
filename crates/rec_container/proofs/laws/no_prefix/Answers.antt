use Rattle.rec_container.proofs.laws.no_prefix.Goals as goal
use Rattle.rec_container.proofs.Unique.{no_prefix_spec}

pub returns : goal.returns
returns c = no_prefix_spec
