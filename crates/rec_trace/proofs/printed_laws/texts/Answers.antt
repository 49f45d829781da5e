use Rattle.rec_trace.proofs.printed_laws.texts.Goals as goal
use Rattle.rec_trace.proofs.ReadTexts.{events-text}

pub returns : goal.returns
returns c = events-text
