use Rattle.rec_events.specs.declared.outputs.LiveSpec.{LiveSpec}
use Rattle.rec_events.specs.declared.outputs.RecordingSpec.{RecordingSpec}
use Rattle.rec_forms.specs.OutputLaws.{stored_outputs_back}
use Rattle.rec_forms.specs.Outputs.{stored_outputs_value, stored_outputs_form, IsStoredOutputs}
use Rattle.rec_codec.proofs.laws.well_formed_events_read_back.Goals as goal
use Rattle.rec_codec.specs.EventFormLaws.{event_back}
use Rattle.rec_codec.specs.Live.{live_value, live_form, IsLive}
use Rattle.rec_codec.specs.LiveLaws.{live_back}

pub returns-clause-live : goal.returns-clause-live
returns-clause-live c = event_back {S = LiveSpec} IsLive live_value live_form live_back

pub returns-clause-recorded : goal.returns-clause-recorded
returns-clause-recorded c =
    event_back {S = RecordingSpec}
    IsStoredOutputs stored_outputs_value stored_outputs_form stored_outputs_back
