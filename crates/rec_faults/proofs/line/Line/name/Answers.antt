use Rattle.rec_faults.proofs.line.Line.name.Goals as goal
use Rattle.rec_faults.proofs.Lines.{piece_written}

pub returns : goal.returns
returns g c =
    piece_written _ _ _ _ _ _ c.as_bytes.ensures.value c.write_all.result _ _ c.if-self.false
    c.is_err.ensures.value c.write_all.ensures.ok c.write_all.ensures.fault
    c.write_all.ensures.cause
