use Rattle.rec_codec.proofs.laws.well_formed_events_are_logged.Goals as goal
use Rattle.rec_codec.proofs.LogLaws.{event_logged}

pub returns : goal.returns
returns c = event_logged
