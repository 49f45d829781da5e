use Rattle.rec_portable.proofs.laws.upgraded_again.Goals as goal
use Rattle.rec_portable.proofs.UpgradeLaws.{again}

pub returns : goal.returns
returns c = again c.written_reads.ensures.parts
