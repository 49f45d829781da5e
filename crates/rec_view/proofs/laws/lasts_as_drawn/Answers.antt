use Rattle.rec_view.proofs.Extents.{extents}
use Rattle.rec_view.proofs.laws.lasts_as_drawn.Goals as goal

pub returns : goal.returns
returns c = λ group events ok a z s. extents group events ok a z s
