use Rattle.rec_trace_events.proofs.laws.tests_are_read.Goals as goal
use Rattle.rec_trace_events.proofs.ReadEvents.{begin-names, retry-names, slow-names}

pub returns-clause-begin : goal.returns-clause-begin
returns-clause-begin c = begin-names

pub returns-clause-retry : goal.returns-clause-retry
returns-clause-retry c = retry-names

pub returns-clause-slow : goal.returns-clause-slow
returns-clause-slow c = slow-names
