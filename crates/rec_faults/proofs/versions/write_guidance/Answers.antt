use Rattle.rec_faults.proofs.versions.write_guidance.Goals as goal

pub returns-in-UseOlderNextest : goal.returns-in-UseOlderNextest
returns-in-UseOlderNextest g c = rw c.in-UseOlderNextest.is c.release.ensures

pub returns-in-Discard : goal.returns-in-Discard
returns-in-Discard g c = rw c.in-Discard.is c.release-in-Discard.ensures

pub returns-in-Unknown : goal.returns-in-Unknown
returns-in-Unknown g c = rw c.in-Unknown.is c.name.ensures
