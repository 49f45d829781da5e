use Rattle.rec_faults.proofs.store.write_container_fault.Goals as goal

pub returns-in-BadMagic : goal.returns-in-BadMagic
returns-in-BadMagic g c = rw c.in-BadMagic.is c.name.ensures

pub returns-in-Truncated : goal.returns-in-Truncated
returns-in-Truncated g c = rw c.in-Truncated.is c.number.ensures

pub returns-in-BadTag : goal.returns-in-BadTag
returns-in-BadTag g c = rw c.in-BadTag.is c.number-in-BadTag.ensures

pub returns-in-BadName : goal.returns-in-BadName
returns-in-BadName g c = rw c.in-BadName.is c.number-in-BadName.ensures

pub returns-in-DuplicateName : goal.returns-in-DuplicateName
returns-in-DuplicateName g c = rw c.in-DuplicateName.is c.number-in-DuplicateName.ensures

pub returns-in-TrailingBytes : goal.returns-in-TrailingBytes
returns-in-TrailingBytes g c = rw c.in-TrailingBytes.is c.number-in-TrailingBytes.ensures

pub returns-in-OutOfMemory : goal.returns-in-OutOfMemory
returns-in-OutOfMemory g c = rw c.in-OutOfMemory.is c.name-in-OutOfMemory.ensures
