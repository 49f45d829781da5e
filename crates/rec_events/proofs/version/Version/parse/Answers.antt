use Rattle.rec_events.proofs.version.Version.parse.Goals as goal
use Rattle.rec_events.specs.VersionLaws.{IsVersion-read}

pub invariant_of-result : goal.invariant_of-result
invariant_of-result c = IsVersion-read _ _ c.in-Ok.ensures.ok
