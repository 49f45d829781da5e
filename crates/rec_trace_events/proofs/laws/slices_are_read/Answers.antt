use Rattle.rec_trace_events.proofs.laws.slices_are_read.Goals as goal
use Rattle.rec_trace_events.proofs.ReadEvents.{begin-args, begin-read, end-args, end-read}

pub returns-clause-begins : goal.returns-clause-begins
returns-clause-begins c = begin-read

pub returns-clause-begin_args : goal.returns-clause-begin_args
returns-clause-begin_args c = begin-args

pub returns-clause-ends : goal.returns-clause-ends
returns-clause-ends c = end-read

pub returns-clause-end_args : goal.returns-clause-end_args
returns-clause-end_args c = end-args
