use Rattle.rec_faults.proofs.Lines.{◌▸◌}
use Rattle.rec_faults.proofs.versions.write_store_version.Goals as goal

pub returns-in-RecordingTooOld : goal.returns-in-RecordingTooOld
returns-in-RecordingTooOld g c =
    rw (c.in-RecordingTooOld.is, ← c.number.ensures, ← c.number-in-RecordingTooOld.ensures)
    (c.name-line.ensures ▸ c.write_majors-line.ensures ▸ c.name.ensures ▸ c.write_guidance.ensures)

pub returns-in-RecordingTooNew : goal.returns-in-RecordingTooNew
returns-in-RecordingTooNew g c = rw (
  c.in-RecordingTooNew.is,
  ← c.number-in-RecordingTooNew.ensures,
  ← c.number-in-RecordingTooNew-2.ensures,
) (c.name-line-in-RecordingTooNew.ensures ▸ c.write_majors.ensures)

pub returns-in-MinorTooNew : goal.returns-in-MinorTooNew
returns-in-MinorTooNew g c =
    rw (c.in-MinorTooNew.is, ← c.number-in-MinorTooNew.ensures, ← c.number-in-MinorTooNew-2.ensures)
    c.write_minors.ensures
