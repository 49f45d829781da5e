use Rattle.rec_trace.proofs.laws.marks.Goals as goal
use Rattle.rec_trace.proofs.Marks.{marks-of-drawn, marks-of-trace}

pub returns-clause-event : goal.returns-clause-event
returns-clause-event c = marks-of-drawn

pub returns-clause-history : goal.returns-clause-history
returns-clause-history c = marks-of-trace
