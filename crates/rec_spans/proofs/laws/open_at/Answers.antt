use Rattle.rec_spans.proofs.laws.open_at.Goals as goal
use Rattle.rec_spans.proofs.PlacesOfHistory.{open-is}

pub returns : goal.returns
returns c = open-is
