use Rattle.rec_codec.proofs.laws.read_events_are_well_formed.Goals as goal
use Rattle.rec_codec.proofs.ReadEventLaws.{live_form_well_formed, recorded_form_well_formed}
use Rattle.rec_codec.proofs.ReadEventLaws.{live_event_well_formed, recorded_event_well_formed}

pub returns-clause-live : goal.returns-clause-live
returns-clause-live c = live_form_well_formed

pub returns-clause-recorded : goal.returns-clause-recorded
returns-clause-recorded c = recorded_form_well_formed

pub returns-clause-live_text : goal.returns-clause-live_text
returns-clause-live_text c = live_event_well_formed

pub returns-clause-recorded_text : goal.returns-clause-recorded_text
returns-clause-recorded_text c = recorded_event_well_formed
