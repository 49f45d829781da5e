use Rattle.rec_faults.proofs.Lines.{◌▸◌}
use Rattle.rec_faults.proofs.marks.large_entry.Goals as goal

pub returns : goal.returns
returns g c = c.text.ensures ▸ c.number.ensures ▸ c.number-2.ensures
