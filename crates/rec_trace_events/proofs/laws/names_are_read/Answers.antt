use Rattle.rec_trace_events.proofs.laws.names_are_read.Goals as goal
use Rattle.rec_trace_events.proofs.ReadEvents.{process-named, process-placed, process-read}
use Rattle.rec_trace_events.proofs.ReadEvents.{row-named, row-placed, row-read}

pub returns-clause-process : goal.returns-clause-process
returns-clause-process c = process-read

pub returns-clause-process_name : goal.returns-clause-process_name
returns-clause-process_name c = process-named

pub returns-clause-process_place : goal.returns-clause-process_place
returns-clause-process_place c = process-placed

pub returns-clause-row : goal.returns-clause-row
returns-clause-row c = row-read

pub returns-clause-row_name : goal.returns-clause-row_name
returns-clause-row_name c = row-named

pub returns-clause-row_place : goal.returns-clause-row_place
returns-clause-row_place c = row-placed
