use Rattle.rec_store.proofs.laws.bundle_reads.Goals as goal
use Rattle.rec_store.proofs.ReadLaws.{bundle_reads_spec}

pub returns : goal.returns
returns c = bundle_reads_spec
