-- What each kind of event is for the tests of a run.
use Rattle.std.specs.Prelude.{List, [], map, Option, Some, None}
use Rattle.rec_events.specs.declared.events.CoreEventKind.TheVariants.{
  RunStarted,
  StressSubRunStarted,
  SetupScriptStarted,
  SetupScriptSlow,
  TestStarted,
  TestSlow,
  TestRetryStarted,
  TestSkipped,
  RunBeginCancel,
  RunPaused,
  RunContinued,
  StressSubRunFinished,
  RunFinished,
}
use Rattle.rec_events.specs.declared.events.CoreEventKind.{CoreEventKind}
use Rattle.rec_events.specs.declared.events.OutputEventKind.TheVariants.{
  SetupScriptFinished,
  TestAttemptFailedWillRetry,
  TestFinished,
}
use Rattle.rec_events.specs.declared.events.OutputEventKind.{OutputEventKind}
use Rattle.rec_events.specs.declared.events.TestEventKindSummary.TheVariants.{Core, Output}
use Rattle.rec_events.specs.declared.events.TestEventKindSummary.{TestEventKindSummary}
use Rattle.rec_events.specs.declared.events.TestEventSummary.{TestEventSummary}
use Rattle.rec_events.specs.declared.instances.OwnedTestInstanceId.{OwnedTestInstanceId}
use Rattle.rec_events.specs.declared.run_ends.TestsNotSeenSummary.{TestsNotSeenSummary}
use Rattle.rec_view.specs.declared.verdicts.Verdict.{Verdict}
use Rattle.rec_view.specs.Verdicts.{verdict_of_end}

-- a test starts, or a further attempt of it; an attempt fails, and another one follows; a test
-- ends;
-- it is skipped; a run ends, and names tests that it didn't see; or none of these
pub data Act : Type 0 where
  Starts : (test : OwnedTestInstanceId) → Act
  Retries : (test : OwnedTestInstanceId) → Act
  Fails : (test : OwnedTestInstanceId) → Act
  Ends : (test : OwnedTestInstanceId) (verdict : Verdict) → Act
  Skips : (test : OwnedTestInstanceId) → Act
  RunEnds : (not_seen : List OwnedTestInstanceId) → Act
  Silent : Act

abbrev pub not_seen_in : Option TestsNotSeenSummary → List OwnedTestInstanceId
not_seen_in None = []
not_seen_in (Some summary) = summary.not_seen

abbrev pub core_act : CoreEventKind → Act
core_act (RunStarted run_id profile_name cli_args stress_condition) = Silent
core_act (StressSubRunStarted progress) = Silent
core_act (SetupScriptStarted stress_index index total script_id program args no_capture) = Silent
core_act (SetupScriptSlow stress_index script_id program args elapsed will_terminate) = Silent
core_act (TestStarted stress_index test slot_assignment current_stats running command_line) =
    Starts test
core_act (TestSlow stress_index test retry_data elapsed will_terminate) = Silent
core_act (TestRetryStarted stress_index test slot_assignment retry_data running command_line) =
    Retries test
core_act (TestSkipped stress_index test reason skipped) = Skips test
core_act (RunBeginCancel scripts running reason) = Silent
core_act (RunPaused scripts running) = Silent
core_act (RunContinued scripts running) = Silent
core_act (StressSubRunFinished progress sub_elapsed sub_stats) = Silent
core_act (RunFinished run_id start_time elapsed run_stats outstanding) =
    RunEnds (not_seen_in outstanding)

module _ {S O : Type 0} where
  abbrev pub output_act : OutputEventKind S O → Act
  output_act (SetupScriptFinished stress index total script program args no_capture status) = Silent
  output_act (TestAttemptFailedWillRetry stress test status delay failure running) = Fails test
  output_act (TestFinished stress test success failure store_success store_failure junit statuses
      stats running) = Ends test (verdict_of_end statuses)

  abbrev pub act_of : TestEventKindSummary S O → Act
  act_of (Core kind) = core_act kind
  act_of (Output kind) = output_act kind

  -- what each of these events is
  abbrev pub acts : List (TestEventSummary S O) → List Act
  acts events = map (λ e. act_of e.kind) events
