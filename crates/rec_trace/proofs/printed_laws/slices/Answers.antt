use Rattle.rec_trace.proofs.printed_laws.slices.Goals as goal
use Rattle.rec_trace.proofs.ReadEvents.{slices-drawn, slices-event, slices-history}

pub returns-clause-drawn : goal.returns-clause-drawn
returns-clause-drawn c = slices-drawn

pub returns-clause-history : goal.returns-clause-history
returns-clause-history c = slices-history

pub returns-clause-event : goal.returns-clause-event
returns-clause-event c = slices-event
