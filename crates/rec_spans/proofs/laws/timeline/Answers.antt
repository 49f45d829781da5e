use Rattle.rec_spans.proofs.laws.timeline.Goals as goal
use Rattle.rec_spans.proofs.Timelines.{timeline}

pub returns : goal.returns
returns c = timeline
