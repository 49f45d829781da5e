use
    Rattle.rec_format.proofs.incompatibility.PortableRecordingVersionIncompatibilityDisplay.fmt.Goals
    as goal

pub returns-in-MinorTooNew-clause-writes : goal.returns-in-MinorTooNew-clause-writes
returns-in-MinorTooNew-clause-writes g c =
    rw c.in-MinorTooNew.is c.write-in-MinorTooNew.ensures.writes
