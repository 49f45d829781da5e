use Rattle.rec_trace_events.proofs.laws.instants_are_read.Goals as goal
use Rattle.rec_trace_events.proofs.ReadEvents.{cancelled-named, continued-named, mark-counted}
use Rattle.rec_trace_events.proofs.ReadEvents.{mark-read, paused-named, slow-args, slow-read}

pub returns-clause-mark : goal.returns-clause-mark
returns-clause-mark c = mark-read

pub returns-clause-mark_counts : goal.returns-clause-mark_counts
returns-clause-mark_counts c = mark-counted

pub returns-clause-cancelled : goal.returns-clause-cancelled
returns-clause-cancelled c = cancelled-named

pub returns-clause-paused : goal.returns-clause-paused
returns-clause-paused c = paused-named

pub returns-clause-continued : goal.returns-clause-continued
returns-clause-continued c = continued-named

pub returns-clause-slow : goal.returns-clause-slow
returns-clause-slow c = slow-read

pub returns-clause-slow_args : goal.returns-clause-slow_args
returns-clause-slow_args c = slow-args
