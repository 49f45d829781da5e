use Rattle.rec_spans.proofs.laws.outputs_are_not_drawn.Goals as goal
use Rattle.rec_spans.proofs.Plains.{event-plain}

pub returns : goal.returns
returns g c = event-plain g.row.T.Denot
