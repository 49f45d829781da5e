use Rattle.rec_format.proofs.laws.too_old_stores_have_guidance.Goals as goal
use Rattle.rec_format.proofs.WrittenVersion.{guided}

pub returns : goal.returns
returns c = guided
