use Rattle.rec_faults.proofs.events.SlotErrorRefusal.write.Goals as goal
use Rattle.rec_faults.proofs.Lines.{◌▸◌}

pub returns-in-Refused : goal.returns-in-Refused
returns-in-Refused g c = rw c.in-Refused.is (c.name.ensures ▸ c.write.ensures)

pub returns-in-NotOneRun : goal.returns-in-NotOneRun
returns-in-NotOneRun g c = rw c.in-NotOneRun.is c.name-in-NotOneRun.ensures

pub returns-in-AttemptOutside : goal.returns-in-AttemptOutside
returns-in-AttemptOutside g c = rw c.in-AttemptOutside.is c.number.ensures

pub returns-in-StampFell : goal.returns-in-StampFell
returns-in-StampFell g c = rw c.in-StampFell.is c.number-in-StampFell.ensures

pub returns-in-OutOfMemory : goal.returns-in-OutOfMemory
returns-in-OutOfMemory g c = rw c.in-OutOfMemory.is c.name-in-OutOfMemory.ensures
