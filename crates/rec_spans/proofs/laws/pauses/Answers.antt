use Rattle.rec_spans.proofs.laws.pauses.Goals as goal
use Rattle.rec_spans.proofs.PlacesOfHistory.{pause-is}

pub returns : goal.returns
returns c = pause-is
