use Rattle.rec_faults.proofs.salvage.SalvageErrorRefusal.write.Goals as goal

pub returns-in-BadMagic : goal.returns-in-BadMagic
returns-in-BadMagic g c = rw c.in-BadMagic.is c.name.ensures

pub returns-in-MissingMeta : goal.returns-in-MissingMeta
returns-in-MissingMeta g c = rw (c.in-MissingMeta.is, ← c.as_str.ensures.value) c.text.ensures

pub returns-in-BadMeta : goal.returns-in-BadMeta
returns-in-BadMeta g c =
    rw (c.in-BadMeta.is, ← c.as_str-in-BadMeta.ensures.value) c.text-in-BadMeta.ensures

pub returns-in-OpenArchive : goal.returns-in-OpenArchive
returns-in-OpenArchive g c =
    rw (c.in-OpenArchive.is, ← c.as_str-in-OpenArchive.ensures.value) c.text-in-OpenArchive.ensures

pub returns-in-OpenRunLog : goal.returns-in-OpenRunLog
returns-in-OpenRunLog g c =
    rw (c.in-OpenRunLog.is, ← c.as_str-in-OpenRunLog.ensures.value) c.text-in-OpenRunLog.ensures

pub returns-in-DiskFault : goal.returns-in-DiskFault
returns-in-DiskFault g c =
    rw (c.in-DiskFault.is, ← c.as_str-in-DiskFault.ensures.value) c.text-in-DiskFault.ensures

pub returns-in-OutOfMemory : goal.returns-in-OutOfMemory
returns-in-OutOfMemory g c = rw c.in-OutOfMemory.is c.name-in-OutOfMemory.ensures
