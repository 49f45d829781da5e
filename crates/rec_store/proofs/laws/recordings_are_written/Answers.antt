use Rattle.rec_store.proofs.laws.recordings_are_written.Goals as goal
use Rattle.rec_store.proofs.RecordedParts.{recorded_settled, recorded_written}

pub returns-clause-bytes : goal.returns-clause-bytes
returns-clause-bytes c = recorded_written

pub returns-clause-parts : goal.returns-clause-parts
returns-clause-parts c = recorded_settled
