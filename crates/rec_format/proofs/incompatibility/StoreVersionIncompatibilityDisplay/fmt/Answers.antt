use Rattle.rec_format.proofs.incompatibility.StoreVersionIncompatibilityDisplay.fmt.Goals as goal

pub returns-in-RecordingTooOld-clause-writes : goal.returns-in-RecordingTooOld-clause-writes
returns-in-RecordingTooOld-clause-writes g c = rw c.in-RecordingTooOld.is c.write.ensures.writes

pub returns-in-RecordingTooNew-clause-writes : goal.returns-in-RecordingTooNew-clause-writes
returns-in-RecordingTooNew-clause-writes g c =
    rw c.in-RecordingTooNew.is c.write-in-RecordingTooNew.ensures.writes

pub returns-in-MinorTooNew-clause-writes : goal.returns-in-MinorTooNew-clause-writes
returns-in-MinorTooNew-clause-writes g c =
    rw c.in-MinorTooNew.is c.write-in-MinorTooNew.ensures.writes
