use Rattle.rec_trace.proofs.printed_laws.readable.Goals as goal
use Rattle.rec_trace.proofs.ReadEvents.{events-drawn, events-readable}

pub returns-clause-read : goal.returns-clause-read
returns-clause-read c = events-readable

pub returns-clause-drawn : goal.returns-clause-drawn
returns-clause-drawn c = events-drawn
