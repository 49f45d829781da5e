use Rattle.rec_trace.proofs.laws.names.Goals as goal
use Rattle.rec_trace.proofs.NamedOnce.{named-once}
use Rattle.rec_trace.proofs.NamesDrawn.{names-of-drawn}

pub returns-clause-event : goal.returns-clause-event
returns-clause-event c = names-of-drawn

pub returns-clause-once : goal.returns-clause-once
returns-clause-once c = named-once
