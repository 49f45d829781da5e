use Rattle.rec_store.proofs.laws.judged_parts_are_read.Goals as goal
use Rattle.rec_store.proofs.PartsJudged.{judged_read}

pub returns : goal.returns
returns c = judged_read
