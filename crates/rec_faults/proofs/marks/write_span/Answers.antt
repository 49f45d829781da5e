use Rattle.rec_faults.proofs.Lines.{◌▸◌}
use Rattle.rec_faults.proofs.marks.write_span.Goals as goal

pub returns-in-Run : goal.returns-in-Run
returns-in-Run g c = rw c.in-Run.is c.name.ensures

pub returns-in-SubRun : goal.returns-in-SubRun
returns-in-SubRun g c = rw c.in-SubRun.is c.name-in-SubRun.ensures

pub returns-in-Script : goal.returns-in-Script
returns-in-Script g c = rw c.in-Script.is c.number.ensures

pub returns-in-Test : goal.returns-in-Test
returns-in-Test g c =
    rw (c.in-Test.is, ← c.as_str.ensures.value, ← c.as_str-in-Test.ensures.value)
    (c.text.ensures ▸ c.text-in-Test.ensures)
