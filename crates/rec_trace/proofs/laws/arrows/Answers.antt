use Rattle.rec_trace.proofs.Arrows.{arrows-pair}
use Rattle.rec_trace.proofs.laws.arrows.Goals as goal

pub returns : goal.returns
returns c = arrows-pair
