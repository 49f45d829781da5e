use Rattle.rec_export.proofs.laws.bundles_of_sessions_read.Goals as goal
use Rattle.rec_export.proofs.SessionReads.{bundles_of_sessions_read_spec}

pub returns : goal.returns
returns c = bundles_of_sessions_read_spec
