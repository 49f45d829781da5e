use Rattle.rec_trace.proofs.printed_laws.groupings.Goals as goal
use Rattle.rec_trace.proofs.ReadGroupings.{groupings-read}

pub returns : goal.returns
returns c = groupings-read
