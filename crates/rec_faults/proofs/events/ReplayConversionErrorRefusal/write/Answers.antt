use Rattle.rec_faults.proofs.events.ReplayConversionErrorRefusal.write.Goals as goal
use Rattle.rec_faults.proofs.Lines.{◌▸◌}

pub returns-in-TestNotFound : goal.returns-in-TestNotFound
returns-in-TestNotFound g c =
    rw (c.in-TestNotFound.is, ← c.as_str.ensures.value, ← c.as_str-in-TestNotFound.ensures.value)
    (c.text.ensures ▸ c.text-in-TestNotFound.ensures)

pub returns-in-RecordRead : goal.returns-in-RecordRead
returns-in-RecordRead g c = rw c.in-RecordRead.is (c.name.ensures ▸ c.write.ensures)

pub returns-in-InvalidStressCount : goal.returns-in-InvalidStressCount
returns-in-InvalidStressCount g c =
    rw c.in-InvalidStressCount.is c.name-in-InvalidStressCount.ensures

pub returns-in-OutOfMemory : goal.returns-in-OutOfMemory
returns-in-OutOfMemory g c = rw c.in-OutOfMemory.is c.name-in-OutOfMemory.ensures
