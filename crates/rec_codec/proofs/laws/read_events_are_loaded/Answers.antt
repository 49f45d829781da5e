use Rattle.rec_codec.proofs.laws.read_events_are_loaded.Goals as goal
use Rattle.rec_codec.proofs.ReadEventLaws.{live_value_loaded, live_event_loaded}

pub returns-clause-value : goal.returns-clause-value
returns-clause-value c = live_value_loaded

pub returns-clause-text : goal.returns-clause-text
returns-clause-text c = live_event_loaded
