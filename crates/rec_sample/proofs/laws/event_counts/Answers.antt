use Rattle.rec_sample.proofs.Counts.{event_count}
use Rattle.rec_sample.proofs.laws.event_counts.Goals as goal

pub returns : goal.returns
returns c = event_count
