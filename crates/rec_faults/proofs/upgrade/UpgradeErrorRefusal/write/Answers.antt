use Rattle.rec_faults.proofs.Lines.{◌▸◌}
use Rattle.rec_faults.proofs.upgrade.UpgradeErrorRefusal.write.Goals as goal

pub returns-in-Open : goal.returns-in-Open
returns-in-Open g c = rw c.in-Open.is (c.name.ensures ▸ c.write.ensures)

pub returns-in-ForeignEntry : goal.returns-in-ForeignEntry
returns-in-ForeignEntry g c = rw (c.in-ForeignEntry.is, ← c.as_str.ensures.value) c.text.ensures

pub returns-in-Read : goal.returns-in-Read
returns-in-Read g c = rw c.in-Read.is (c.name-in-Read.ensures ▸ c.write-in-Read.ensures)

pub returns-in-CountOutOfRange : goal.returns-in-CountOutOfRange
returns-in-CountOutOfRange g c = rw c.in-CountOutOfRange.is c.name-in-CountOutOfRange.ensures

pub returns-in-FileTooLarge : goal.returns-in-FileTooLarge
returns-in-FileTooLarge g c =
    rw (c.in-FileTooLarge.is, ← c.as_str-in-FileTooLarge.ensures.value) c.large_entry.ensures

pub returns-in-BundleFault : goal.returns-in-BundleFault
returns-in-BundleFault g c = rw c.in-BundleFault.is c.name-in-BundleFault.ensures

pub returns-in-OutOfMemory : goal.returns-in-OutOfMemory
returns-in-OutOfMemory g c = rw c.in-OutOfMemory.is c.name-in-OutOfMemory.ensures
