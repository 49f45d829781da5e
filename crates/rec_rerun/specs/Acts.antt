-- What each kind of event is for a rerun. The sixteen kinds stand here, and nowhere else.
use Rattle.std.specs.Option.{option_map_or}
use Rattle.std.specs.Prelude.{◌==◌, ◌-◌, ◌&&◌, ◌||◌, Bool, true, false, length, slice_get}
use Rattle.rec_events.specs.declared.events.CoreEventKind.TheVariants.{
  RunStarted,
  StressSubRunStarted,
  SetupScriptStarted,
  SetupScriptSlow,
  TestStarted,
  TestSlow,
  TestRetryStarted,
  TestSkipped,
  RunBeginCancel,
  RunPaused,
  RunContinued,
  StressSubRunFinished,
  RunFinished,
}
use Rattle.rec_events.specs.declared.events.CoreEventKind.{CoreEventKind}
use Rattle.rec_events.specs.declared.events.OutputEventKind.TheVariants.{
  SetupScriptFinished,
  TestAttemptFailedWillRetry,
  TestFinished,
}
use Rattle.rec_events.specs.declared.events.OutputEventKind.{OutputEventKind}
use Rattle.rec_events.specs.declared.events.TestEventKindSummary.TheVariants.{Core, Output}
use Rattle.rec_events.specs.declared.events.TestEventKindSummary.{TestEventKindSummary}
use Rattle.rec_events.specs.declared.instances.OwnedTestInstanceId.{OwnedTestInstanceId}
use Rattle.rec_events.specs.declared.results.FlakyResult.TheVariants as flaky
use Rattle.rec_events.specs.declared.results.FlakyResult.{FlakyResult}
use Rattle.rec_events.specs.declared.statuses.ExecutionStatuses.{ExecutionStatuses}
use Rattle.rec_events.specs.Results.{succeeded}

-- an attempt of a test starts; a test ends, and has passed or not; or neither
pub data Act : Type 0 where
  Starts : (test : OwnedTestInstanceId) → Act
  Ends : (test : OwnedTestInstanceId) (passed : Bool) → Act
  Silent : Act

abbrev pub counts_as_passed : FlakyResult → Bool
counts_as_passed flaky.Pass = true
counts_as_passed flaky.Fail = false

abbrev pub core_act : CoreEventKind → Act
core_act (RunStarted run_id profile_name cli_args stress_condition) = Silent
core_act (StressSubRunStarted progress) = Silent
core_act (SetupScriptStarted stress_index index total script_id program args no_capture) = Silent
core_act (SetupScriptSlow stress_index script_id program args elapsed will_terminate) = Silent
core_act (TestStarted stress_index test slot_assignment current_stats running command_line) =
    Starts test
core_act (TestSlow stress_index test retry_data elapsed will_terminate) = Silent
core_act (TestRetryStarted stress_index test slot_assignment retry_data running command_line) =
    Starts test
core_act (TestSkipped stress_index test reason skipped) = Silent
core_act (RunBeginCancel scripts running reason) = Silent
core_act (RunPaused scripts running) = Silent
core_act (RunContinued scripts running) = Silent
core_act (StressSubRunFinished progress sub_elapsed sub_stats) = Silent
core_act (RunFinished run_id start_time elapsed run_stats outstanding) = Silent

module _ {S O : Type 0} where
  -- the last attempt succeeded, and it is the only one,
  -- or the test counts as passed though it is flaky
  abbrev pub pass : ExecutionStatuses S O → Bool
  pass s =
      option_map_or (λ status. succeeded status.result)
      (slice_get s.statuses (length s.statuses - 1)) false
      && (length s.statuses == 1 || counts_as_passed s.flaky_result)

  abbrev pub output_act : OutputEventKind S O → Act
  output_act (SetupScriptFinished stress index total script program args no_capture status) = Silent
  output_act (TestAttemptFailedWillRetry stress test status delay failure running) = Silent
  output_act (TestFinished stress test success failure store_success store_failure junit statuses
      stats running) =
      Ends test (pass statuses)

  abbrev pub act_of : TestEventKindSummary S O → Act
  act_of (Core kind) = core_act kind
  act_of (Output kind) = output_act kind
