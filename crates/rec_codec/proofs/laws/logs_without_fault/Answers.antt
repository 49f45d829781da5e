use Rattle.rec_codec.proofs.laws.logs_without_fault.Goals as goal
use Rattle.rec_codec.proofs.LineReadings.{log_events-whole}

pub returns : goal.returns
returns c = log_events-whole
