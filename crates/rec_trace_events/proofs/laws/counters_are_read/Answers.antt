use Rattle.rec_trace_events.proofs.laws.counters_are_read.Goals as goal
use Rattle.rec_trace_events.proofs.ReadEvents.{results-counted, results-read}
use Rattle.rec_trace_events.proofs.ReadEvents.{running-counted, running-read}

pub returns-clause-running : goal.returns-clause-running
returns-clause-running c = running-read

pub returns-clause-running_counts : goal.returns-clause-running_counts
returns-clause-running_counts c = running-counted

pub returns-clause-results : goal.returns-clause-results
returns-clause-results c = results-read

pub returns-clause-results_counts : goal.returns-clause-results_counts
returns-clause-results_counts c = results-counted
