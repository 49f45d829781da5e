use Rattle.rec_portable.proofs.AcceptedParts.{accepted_read}
use Rattle.rec_portable.proofs.laws.accepted_bundles_are_read.Goals as goal

pub returns : goal.returns
returns c = accepted_read c.judged_parts_are_read.ensures c.written_reads.ensures.record
