use Rattle.rec_faults.proofs.Lines.{◌▸◌}
use Rattle.rec_faults.proofs.versions.write_minors.Goals as goal

pub returns : goal.returns
returns g c = c.number.ensures ▸ c.number-2.ensures
