use Rattle.rec_faults.proofs.Lines.{◌▸◌}
use Rattle.rec_faults.proofs.versions.write_bundle_version.Goals as goal

pub returns-in-MajorMismatch : goal.returns-in-MajorMismatch
returns-in-MajorMismatch g c =
    rw (c.in-MajorMismatch.is, ← c.number.ensures, ← c.number-in-MajorMismatch.ensures)
    (c.name-line.ensures ▸ c.write_majors.ensures)

pub returns-in-MinorTooNew : goal.returns-in-MinorTooNew
returns-in-MinorTooNew g c =
    rw (c.in-MinorTooNew.is, ← c.number-in-MinorTooNew.ensures, ← c.number-in-MinorTooNew-2.ensures)
    c.write_minors.ensures
