use Rattle.rec_faults.proofs.events.LineErrorRefusal.write.Goals as goal

pub returns-in-ReadRunLog : goal.returns-in-ReadRunLog
returns-in-ReadRunLog g c = rw c.in-ReadRunLog.is c.number.ensures

pub returns-in-ParseEvent : goal.returns-in-ParseEvent
returns-in-ParseEvent g c = rw c.in-ParseEvent.is c.number-in-ParseEvent.ensures

pub returns-in-OutOfMemory : goal.returns-in-OutOfMemory
returns-in-OutOfMemory g c = rw c.in-OutOfMemory.is c.name.ensures
