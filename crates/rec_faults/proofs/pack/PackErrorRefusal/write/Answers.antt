use Rattle.rec_faults.proofs.pack.PackErrorRefusal.write.Goals as goal

pub returns-in-OpenManifest : goal.returns-in-OpenManifest
returns-in-OpenManifest g c = rw (c.in-OpenManifest.is, ← c.as_str.ensures.value) c.text.ensures

pub returns-in-DiskFault : goal.returns-in-DiskFault
returns-in-DiskFault g c =
    rw (c.in-DiskFault.is, ← c.as_str-in-DiskFault.ensures.value) c.text-in-DiskFault.ensures

pub returns-in-ParseManifest : goal.returns-in-ParseManifest
returns-in-ParseManifest g c = rw c.in-ParseManifest.is c.name.ensures

pub returns-in-Closing : goal.returns-in-Closing
returns-in-Closing g c = rw c.in-Closing.is c.write.ensures

pub returns-in-OtherRun : goal.returns-in-OtherRun
returns-in-OtherRun g c = rw c.in-OtherRun.is c.name-in-OtherRun.ensures

pub returns-in-Salvage : goal.returns-in-Salvage
returns-in-Salvage g c = rw c.in-Salvage.is c.write-in-Salvage.ensures

pub returns-in-BundleFault : goal.returns-in-BundleFault
returns-in-BundleFault g c = rw c.in-BundleFault.is c.name-in-BundleFault.ensures

pub returns-in-OutOfMemory : goal.returns-in-OutOfMemory
returns-in-OutOfMemory g c = rw c.in-OutOfMemory.is c.name-in-OutOfMemory.ensures
