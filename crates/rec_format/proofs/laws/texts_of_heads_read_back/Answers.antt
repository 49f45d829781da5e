use Rattle.rec_format.proofs.laws.texts_of_heads_read_back.Goals as goal
use Rattle.rec_format.proofs.TextLaws.{head_texts}

pub returns : goal.returns
returns c = head_texts
