use Rattle.rec_store.proofs.laws.readings_have_parts.Goals as goal
use Rattle.rec_store.proofs.WrittenRuns.{parts_of_bundle}

pub returns : goal.returns
returns c = parts_of_bundle
