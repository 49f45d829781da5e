use Rattle.rec_faults.proofs.events.JunitErrorRefusal.write.Goals as goal

pub returns-in-NotLoadedOutput : goal.returns-in-NotLoadedOutput
returns-in-NotLoadedOutput g c = rw c.in-NotLoadedOutput.is c.name.ensures

pub returns-in-SuccessAsFailure : goal.returns-in-SuccessAsFailure
returns-in-SuccessAsFailure g c = rw c.in-SuccessAsFailure.is c.name-in-SuccessAsFailure.ensures

pub returns-in-OutOfMemory : goal.returns-in-OutOfMemory
returns-in-OutOfMemory g c = rw c.in-OutOfMemory.is c.name-in-OutOfMemory.ensures
