use Rattle.rec_faults.proofs.Lines.{◌▸◌}
use Rattle.rec_faults.proofs.marks.open_span.Goals as goal

pub returns : goal.returns
returns g c = c.number.ensures ▸ c.name-line.ensures ▸ c.write_span.ensures
