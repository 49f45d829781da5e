use Rattle.rec_spans.proofs.Groupings.{groupings-agree}
use Rattle.rec_spans.proofs.laws.groupings.Goals as goal

pub returns : goal.returns
returns c = groupings-agree
