use Rattle.rec_trace.proofs.Groupings.{groupings-draw_alike}
use Rattle.rec_trace.proofs.laws.groupings.Goals as goal

pub returns : goal.returns
returns c = groupings-draw_alike
