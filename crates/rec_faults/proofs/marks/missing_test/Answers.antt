use Rattle.rec_faults.proofs.Lines.{◌▸◌}
use Rattle.rec_faults.proofs.marks.missing_test.Goals as goal

pub returns : goal.returns
returns g c =
    rw (← c.as_str.ensures.value, ← c.as_str-2.ensures.value)
    (c.number.ensures ▸ c.text.ensures ▸ c.text-2.ensures)
