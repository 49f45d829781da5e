-- What is stored of an event's outputs, and what the event is recorded as.
use Rattle.std.specs.Prelude.{ℕ, List, [], ◌∷◌, ◌++◌, length, nat_le, ◌==◌, Bool, false}
use Rattle.std.specs.Prelude.{true, Option, Some, None, option_map, if◌then◌else◌}
use Rattle.rec_container.specs.Container.{Entry}
use Rattle.rec_container.specs.Writing.{entry_named}
use Rattle.rec_events.specs.declared.events.OutputEventKind.TheVariants.{
  SetupScriptFinished,
  TestAttemptFailedWillRetry,
  TestFinished,
}
use Rattle.rec_events.specs.declared.events.OutputEventKind.{OutputEventKind}
use Rattle.rec_events.specs.declared.events.TestEventKindSummary.{TestEventKindSummary}
use Rattle.rec_events.specs.declared.output_names.OutputFileName.{OutputFileName}
use Rattle.rec_events.specs.declared.output_names.OutputKind.TheVariants as kind
use Rattle.rec_events.specs.declared.output_names.OutputKind.{OutputKind}
use Rattle.rec_events.specs.declared.outputs.ChildExecutionOutputDescription.{
  ChildExecutionOutputDescription,
}
use Rattle.rec_events.specs.declared.outputs.ChildOutputDescription.TheVariants as live
use Rattle.rec_events.specs.declared.outputs.ChildOutputDescription.{ChildOutputDescription}
use Rattle.rec_events.specs.declared.outputs.LiveSpec.{LiveSpec}
use Rattle.rec_events.specs.declared.outputs.RecordingSpec.{RecordingSpec}
use Rattle.rec_events.specs.declared.outputs.ZipStoreOutput.TheVariants.{Empty, Full, Truncated}
use Rattle.rec_events.specs.declared.outputs.ZipStoreOutput.{ZipStoreOutput}
use Rattle.rec_events.specs.declared.outputs.ZipStoreOutputDescription.TheVariants as stored
use Rattle.rec_events.specs.declared.outputs.ZipStoreOutputDescription.{ZipStoreOutputDescription}
use Rattle.rec_events.specs.declared.script_statuses.SetupScriptExecuteStatus.{
  SetupScriptExecuteStatus,
}
use Rattle.rec_events.specs.declared.statuses.ExecuteStatus.{ExecuteStatus}
use Rattle.rec_events.specs.declared.statuses.ExecutionStatuses.{ExecutionStatuses}
use Rattle.rec_events.specs.EventMaps.{execution_with, status_with, statuses_with}
use Rattle.rec_events.specs.EventMaps.{script_status_with, output_kind_with, kind_with, event_with}
use Rattle.rec_events.specs.EventMaps.{of_execution, of_status, of_output_kind, of_kind, of_event}
use Rattle.rec_codec.specs.Event.{LiveEvent, RecordedEvent}
use Rattle.rec_store.specs.Cut.{cut}
use Rattle.rec_store.specs.OutputPaths.{output_path}

-- the forms that live and recorded outputs have
abbrev pub Live : (Type 0 → Type 0 → Type 0) → Type 0
Live T = T LiveSpec ChildOutputDescription

abbrev pub Recorded : (Type 0 → Type 0 → Type 0) → Type 0
Recorded T = T RecordingSpec ZipStoreOutputDescription

-- which of the kinds with outputs it is
abbrev pub is_script_finished : Live OutputEventKind → Bool
is_script_finished (SetupScriptFinished stress index total script program args no_capture status) =
    true
is_script_finished kind = false

abbrev pub is_failed_attempt : Live OutputEventKind → Bool
is_failed_attempt (TestAttemptFailedWillRetry stress test status delay failure running) = true
is_failed_attempt kind = false

abbrev pub is_finished : Live OutputEventKind → Bool
is_finished (TestFinished stress test success failure store_success store_failure flaky statuses
    stats running) =
    true
is_finished kind = false

-- outputs are numbered by their bytes, and cut at m bytes
module _ (number : List ℕ → ℕ) (m : ℕ) where
  -- the name of an output's file, by what is kept of it
  abbrev pub file_name : OutputKind → List ℕ → OutputFileName
  file_name kind b = record { number = number (cut b m); kind = kind }

  -- ---- what is stored of an output

  abbrev pub output_entry : OutputKind → List ℕ → Entry
  output_entry kind b = entry_named (output_path (file_name kind b)) (cut b m)

  -- an output without bytes has no entry
  abbrev pub output_entries : OutputKind → List ℕ → List Entry
  output_entries kind b = if length b == 0 then [] else output_entry kind b ∷ []

  -- nor has one that was not captured
  abbrev pub captured_entries : OutputKind → Option (List ℕ) → List Entry
  captured_entries kind None = []
  captured_entries kind (Some b) = output_entries kind b

  abbrev pub description_entries : ChildOutputDescription → List Entry
  description_entries (live.Split out err) =
      captured_entries kind.Stdout out ++ captured_entries kind.Stderr err
  description_entries (live.Combined both) = output_entries kind.Combined both
  description_entries live.NotLoaded = []

  abbrev pub execution_entries : Live ChildExecutionOutputDescription → List Entry
  execution_entries e = of_execution description_entries e

  abbrev pub status_entries : Live ExecuteStatus → List Entry
  status_entries s = of_status description_entries s

  abbrev pub script_status_entries : Live SetupScriptExecuteStatus → List Entry
  script_status_entries s = execution_entries s.output

  abbrev pub output_kind_entries : Live OutputEventKind → List Entry
  output_kind_entries k = of_output_kind description_entries k

  abbrev pub kind_entries : Live TestEventKindSummary → List Entry
  kind_entries k = of_kind description_entries k

  abbrev pub event_entries : LiveEvent → List Entry
  event_entries e = of_event description_entries e

  -- ---- what the event is recorded as

  abbrev pub stored_as : OutputKind → List ℕ → ZipStoreOutput
  stored_as kind b =
      if length b == 0 then Empty
      else if nat_le (length b) m then Full (file_name kind b)
      else Truncated (file_name kind b) (length b)

  -- what isn't loaded is not recorded at all; the value says nothing
  abbrev pub description_recorded : ChildOutputDescription → ZipStoreOutputDescription
  description_recorded (live.Split out err) =
      stored.Split (option_map (stored_as kind.Stdout) out) (option_map (stored_as kind.Stderr) err)
  description_recorded (live.Combined both) = stored.Combined (stored_as kind.Combined both)
  description_recorded live.NotLoaded = stored.Split None None

  abbrev pub execution_recorded : Live ChildExecutionOutputDescription
      → Recorded ChildExecutionOutputDescription
  execution_recorded e = execution_with description_recorded e

  abbrev pub status_recorded : Live ExecuteStatus → Recorded ExecuteStatus
  status_recorded s = status_with description_recorded s

  abbrev pub statuses_recorded : Live ExecutionStatuses → Recorded ExecutionStatuses
  statuses_recorded s = statuses_with description_recorded s

  abbrev pub script_status_recorded : Live SetupScriptExecuteStatus
      → Recorded SetupScriptExecuteStatus
  script_status_recorded s = script_status_with description_recorded s

  abbrev pub output_kind_recorded : Live OutputEventKind → Recorded OutputEventKind
  output_kind_recorded k = output_kind_with description_recorded k

  abbrev pub kind_recorded : Live TestEventKindSummary → Recorded TestEventKindSummary
  kind_recorded k = kind_with description_recorded k

  abbrev pub event_recorded : LiveEvent → RecordedEvent
  event_recorded e = event_with description_recorded e
