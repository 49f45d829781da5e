use Rattle.rec_format.proofs.laws.read_heads_are_well_formed.Goals as goal
use Rattle.rec_format.proofs.TextLaws.{IsHead-read}

pub returns : goal.returns
returns c = IsHead-read
