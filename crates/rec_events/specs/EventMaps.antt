-- Events with their outputs replaced, and what is gathered of these.
use Rattle.std.specs.List.{flat_map}
use Rattle.std.specs.Prelude.{List, [], map}
use Rattle.rec_events.specs.declared.events.OutputEventKind.TheVariants.{
  SetupScriptFinished,
  TestAttemptFailedWillRetry,
  TestFinished,
}
use Rattle.rec_events.specs.declared.events.OutputEventKind.{OutputEventKind}
use Rattle.rec_events.specs.declared.events.TestEventKindSummary.TheVariants as event
use Rattle.rec_events.specs.declared.events.TestEventKindSummary.{TestEventKindSummary}
use Rattle.rec_events.specs.declared.events.TestEventSummary.{TestEventSummary}
use Rattle.rec_events.specs.declared.outputs.ChildExecutionOutputDescription.TheVariants.{
  Output,
  StartError,
}
use Rattle.rec_events.specs.declared.outputs.ChildExecutionOutputDescription.{
  ChildExecutionOutputDescription,
}
use Rattle.rec_events.specs.declared.script_statuses.SetupScriptExecuteStatus.{
  SetupScriptExecuteStatus,
}
use Rattle.rec_events.specs.declared.statuses.ExecuteStatus.{ExecuteStatus}
use Rattle.rec_events.specs.declared.statuses.ExecutionStatuses.{ExecutionStatuses}

-- each output is replaced by what f makes of it, and all else stays
module _ {S O T P : Type 0} (f : O → P) where
  abbrev pub execution_with : ChildExecutionOutputDescription S O
      → ChildExecutionOutputDescription T P
  execution_with (Output result output errors) = Output result (f output) errors
  execution_with (StartError message) = StartError message

  abbrev pub status_with : ExecuteStatus S O → ExecuteStatus T P
  status_with s = record {
    retry_data = s.retry_data;
    output = execution_with s.output;
    result = s.result;
    start_time = s.start_time;
    time_taken = s.time_taken;
    is_slow = s.is_slow;
    delay_before_start = s.delay_before_start;
    error_summary = s.error_summary;
    output_error_slice = s.output_error_slice;
    cpu_time = s.cpu_time;
  }

  abbrev pub statuses_with : ExecutionStatuses S O → ExecutionStatuses T P
  statuses_with s = record { statuses = map status_with s.statuses; flaky_result = s.flaky_result }

  abbrev pub script_status_with : SetupScriptExecuteStatus S O → SetupScriptExecuteStatus T P
  script_status_with s = record {
    output = execution_with s.output;
    result = s.result;
    start_time = s.start_time;
    time_taken = s.time_taken;
    is_slow = s.is_slow;
    env_map = s.env_map;
    error_summary = s.error_summary;
  }

  abbrev pub output_kind_with : OutputEventKind S O → OutputEventKind T P
  output_kind_with (SetupScriptFinished stress index total script program args no_capture status) =
      SetupScriptFinished stress index total script program args no_capture
      (script_status_with status)
  output_kind_with (TestAttemptFailedWillRetry stress test status delay failure running) =
      TestAttemptFailedWillRetry stress test (status_with status) delay failure running
  output_kind_with (TestFinished stress test success failure store_success store_failure flaky
      statuses stats running) =
      TestFinished stress test success failure store_success store_failure flaky
      (statuses_with statuses) stats running

  abbrev pub kind_with : TestEventKindSummary S O → TestEventKindSummary T P
  kind_with (event.Core kind) = event.Core kind
  kind_with (event.Output kind) = event.Output (output_kind_with kind)

  abbrev pub event_with : TestEventSummary S O → TestEventSummary T P
  event_with e = record { timestamp = e.timestamp; elapsed = e.elapsed; kind = kind_with e.kind }

-- what f gives of each output, in the order of the attempts
module _ {S O A : Type 0} (f : O → List A) where
  abbrev pub of_execution : ChildExecutionOutputDescription S O → List A
  of_execution (Output result output errors) = f output
  of_execution (StartError message) = []

  abbrev pub of_status : ExecuteStatus S O → List A
  of_status s = of_execution s.output

  abbrev pub of_output_kind : OutputEventKind S O → List A
  of_output_kind (SetupScriptFinished stress index total script program args no_capture status) =
      of_execution status.output
  of_output_kind (TestAttemptFailedWillRetry stress test status delay failure running) =
      of_status status
  of_output_kind (TestFinished stress test success failure store_success store_failure flaky
      statuses stats running) =
      flat_map of_status statuses.statuses

  abbrev pub of_kind : TestEventKindSummary S O → List A
  of_kind (event.Core kind) = []
  of_kind (event.Output kind) = of_output_kind kind

  abbrev pub of_event : TestEventSummary S O → List A
  of_event e = of_kind e.kind
