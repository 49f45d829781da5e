use Rattle.rec_codec.proofs.laws.log_reads.Goals as goal
use Rattle.rec_codec.proofs.LogLaws.{log_reads_back}

pub returns : goal.returns
returns c = log_reads_back
