use Rattle.rec_format.proofs.forms.status.RecordedRunStatusForm.write.Goals as goal

pub returns-in-Incomplete-clause-written : goal.returns-in-Incomplete-clause-written
returns-in-Incomplete-clause-written c = rw c.in-Incomplete.is c.write_bare.ensures

pub returns-in-Completed-clause-written : goal.returns-in-Completed-clause-written
returns-in-Completed-clause-written c = rw c.in-Completed.is c.write_completed.ensures.written

pub returns-in-Cancelled-clause-written : goal.returns-in-Cancelled-clause-written
returns-in-Cancelled-clause-written c =
    rw c.in-Cancelled.is c.write_completed-in-Cancelled.ensures.written

pub returns-in-StressCompleted-clause-written : goal.returns-in-StressCompleted-clause-written
returns-in-StressCompleted-clause-written c =
    rw c.in-StressCompleted.is c.write_stress.ensures.written

pub returns-in-StressCancelled-clause-written : goal.returns-in-StressCancelled-clause-written
returns-in-StressCancelled-clause-written c =
    rw c.in-StressCancelled.is c.write_stress-in-StressCancelled.ensures.written

pub returns-in-Unknown-clause-written : goal.returns-in-Unknown-clause-written
returns-in-Unknown-clause-written c = rw c.in-Unknown.is c.write_bare-in-Unknown.ensures
