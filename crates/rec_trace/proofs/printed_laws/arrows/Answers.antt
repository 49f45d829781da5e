use Rattle.rec_trace.proofs.printed_laws.arrows.Goals as goal
use Rattle.rec_trace.proofs.ReadArrows.{arrows-drawn, arrows-history}

pub returns-clause-drawn : goal.returns-clause-drawn
returns-clause-drawn c = arrows-drawn

pub returns-clause-paired : goal.returns-clause-paired
returns-clause-paired c = arrows-history
