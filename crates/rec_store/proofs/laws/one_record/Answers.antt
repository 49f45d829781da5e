use Rattle.rec_store.proofs.laws.one_record.Goals as goal
use Rattle.rec_store.proofs.OneRecord.{one_record_spec}

pub returns : goal.returns
returns c = one_record_spec
