use Rattle.rec_trace_events.proofs.laws.arrows_are_read.Goals as goal
use Rattle.rec_trace_events.proofs.ReadEvents.{arrow_finish-read, arrow_start-read}

pub returns-clause-starts : goal.returns-clause-starts
returns-clause-starts c = arrow_start-read

pub returns-clause-finishes : goal.returns-clause-finishes
returns-clause-finishes c = arrow_finish-read
