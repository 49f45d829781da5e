use Rattle.rec_container.proofs.laws.placed_contents.Goals as goal
use Rattle.rec_container.proofs.Spelling.{place_from-stands}

pub returns : goal.returns
returns c = place_from-stands
