-- What is printed of a run for those who look at it.
use Rattle.std.specs.Prelude.{◌≡◌, ℕ, List, [], ◌∷◌, ◌++◌, Result, Ok}
use Rattle.serde_json.specs.Written.{compact_text}
use Rattle.rec_container.specs.Container.{Entry}
use Rattle.rec_container.specs.Reading.{◌>>=◌}
use Rattle.rec_format.specs.declared.run.RecordedRun.{RecordedRun}
use Rattle.rec_format.specs.RunForms.{run_value}
use Rattle.rec_codec.specs.Event.{RecordedEvent}
use Rattle.rec_portable.specs.Judging.{judged}
use Rattle.rec_replay.specs.declared.output_load.LoadOutput.TheVariants.{Load, Skip}
use Rattle.rec_replay.specs.declared.output_load.LoadOutput.{LoadOutput}
use Rattle.rec_view_json.specs.Views.{view_value}
use Rattle.rec_errors.specs.declared.reading_error.ReadingError.{ReadingError}
use Rattle.rec_reading.specs.LogEvents.{run_events}
use Rattle.rec_reading.specs.Outputs.{stored_outputs}
use Rattle.rec_reading.specs.Printing.{before}
use Rattle.rec_reading.specs.RunParts.{of_bundle}

-- the compact JSON of a run's view and LF
abbrev pub view_line : RecordedRun → List RecordedEvent → List ℕ
view_line run events = compact_text (view_value (run_value run) events) ++ 10 ∷ []

-- the outputs of the store, if they are loaded
abbrev pub outputs_if : LoadOutput → List Entry → List RecordedEvent
    → Result (List ℕ) ReadingError
outputs_if Skip es events = Ok []
outputs_if Load es events = stored_outputs es events

-- the manifest is judged first, then the log is read, and then the outputs
abbrev pub view_of : LoadOutput → ℕ → List Entry → Result (List ℕ) ReadingError
view_of load limit es = do
  manifest ← of_bundle (judged limit es)
  events ← run_events limit es
  before (view_line manifest.run events) (outputs_if load es events)

abbrev pub PrintsView : LoadOutput → ℕ → List Entry → Result (List ℕ) ReadingError → Type 0
PrintsView load limit es r = view_of load limit es ≡ r
