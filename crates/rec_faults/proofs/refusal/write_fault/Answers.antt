use Rattle.rec_faults.proofs.Lines.{line_written}
use Rattle.rec_faults.proofs.refusal.write_fault.Goals as goal
use Rattle.rec_faults.specs.FaultLine.{line}

pub returns : goal.returns
unfolding line
returns g c = line_written _ _ _ _ _ _ _ _ _ c.new.ensures c.write.ensures c.name.ensures
