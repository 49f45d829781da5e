use Rattle.rec_trace.proofs.printed_laws.prefixes.Goals as goal
use Rattle.rec_trace.proofs.ReadEvents.{events-prefix}

pub returns : goal.returns
returns c = events-prefix
