use Rattle.rec_faults.proofs.live.LiveErrorRefusal.write.Goals as goal

pub returns-in-Refused : goal.returns-in-Refused
returns-in-Refused g c = rw c.in-Refused.is c.write.ensures

pub returns-in-ManifestFault : goal.returns-in-ManifestFault
returns-in-ManifestFault g c = rw c.in-ManifestFault.is c.name.ensures

pub returns-in-StoreFault : goal.returns-in-StoreFault
returns-in-StoreFault g c = rw c.in-StoreFault.is c.name-in-StoreFault.ensures

pub returns-in-LogFault : goal.returns-in-LogFault
returns-in-LogFault g c = rw c.in-LogFault.is c.name-in-LogFault.ensures

pub returns-in-OutFault : goal.returns-in-OutFault
returns-in-OutFault g c = rw c.in-OutFault.is c.name-in-OutFault.ensures
