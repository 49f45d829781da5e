use Rattle.rec_trace.proofs.printed_laws.turns.Goals as goal
use Rattle.rec_trace.proofs.ReadTurns.{turns-history}

pub returns : goal.returns
returns c = turns-history
