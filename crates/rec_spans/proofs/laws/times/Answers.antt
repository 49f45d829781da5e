use Rattle.rec_spans.proofs.laws.times.Goals as goal
use Rattle.rec_spans.proofs.TimesOfHistory.{times-add_up}

pub returns : goal.returns
returns c = times-add_up
