use Rattle.rec_trace.proofs.ArrowsDrawn.{ends-of-drawn}
use Rattle.rec_trace.proofs.KnownByPlaces.{next_flow-told}
use Rattle.rec_trace.proofs.laws.arrows_of_events.Goals as goal

pub returns-clause-ends : goal.returns-clause-ends
returns-clause-ends c = ends-of-drawn

pub returns-clause-number : goal.returns-clause-number
returns-clause-number c = next_flow-told
