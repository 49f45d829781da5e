-- What each of the sixteen kinds of events is for the spans of a trace.
use Rattle.std.specs.Prelude.{ℕ, List}
use Rattle.rec_events.specs.declared.events.CoreEventKind.TheVariants.{
  RunStarted,
  StressSubRunStarted,
  SetupScriptStarted,
  SetupScriptSlow,
  TestStarted,
  TestSlow,
  TestRetryStarted,
  TestSkipped,
  RunBeginCancel,
  RunPaused,
  RunContinued,
  StressSubRunFinished,
  RunFinished,
}
use Rattle.rec_events.specs.declared.events.CoreEventKind.{CoreEventKind}
use Rattle.rec_events.specs.declared.events.OutputEventKind.TheVariants.{
  SetupScriptFinished,
  TestAttemptFailedWillRetry,
  TestFinished,
}
use Rattle.rec_events.specs.declared.events.TestEventKindSummary.TheVariants.{Core, Output}
use Rattle.rec_events.specs.declared.instances.OwnedTestInstanceId.{OwnedTestInstanceId}
use Rattle.rec_events.specs.Stats as stats
use Rattle.rec_spans.specs.Plain.{PlainKind, PlainOutputKind}

-- the run, a sub-run, a setup script or an attempt of a test starts, ends or is slow; the run
-- pauses, continues or is cancelled, with so many setup scripts running; or none of these
pub data Act : Type 0 where
  RunStarts : Act
  RunEnds : Act
  SubRunStarts : Act
  SubRunEnds : Act
  ScriptStarts : (index : ℕ) (id : List ℕ) → Act
  ScriptEnds : (index : ℕ) (id : List ℕ) → Act
  ScriptIsSlow : (id : List ℕ) → Act
  AttemptStarts : (test : OwnedTestInstanceId) (slot : ℕ) → Act
  AttemptFails : (test : OwnedTestInstanceId) → Act
  TestEnds : (test : OwnedTestInstanceId) (failures : ℕ) → Act
  TestIsSlow : (test : OwnedTestInstanceId) → Act
  Pauses : (scripts : ℕ) → Act
  Continues : (scripts : ℕ) → Act
  Cancels : (scripts : ℕ) → Act
  Silent : Act

abbrev pub core_act : CoreEventKind → Act
core_act (RunStarted run_id profile_name cli_args stress_condition) = RunStarts
core_act (StressSubRunStarted progress) = SubRunStarts
core_act (SetupScriptStarted stress_index index total script_id program args no_capture) =
    ScriptStarts index script_id
core_act (SetupScriptSlow stress_index script_id program args elapsed will_terminate) =
    ScriptIsSlow script_id
core_act (TestStarted stress_index test slot_assignment current_stats running command_line) =
    AttemptStarts test slot_assignment.global_slot
core_act (TestSlow stress_index test retry_data elapsed will_terminate) = TestIsSlow test
core_act (TestRetryStarted stress_index test slot_assignment retry_data running command_line) =
    AttemptStarts test slot_assignment.global_slot
core_act (TestSkipped stress_index test reason skipped) = Silent
core_act (RunBeginCancel scripts running reason) = Cancels scripts
core_act (RunPaused scripts running) = Pauses scripts
core_act (RunContinued scripts running) = Continues scripts
core_act (StressSubRunFinished progress sub_elapsed sub_stats) = SubRunEnds
core_act (RunFinished run_id start_time elapsed run_stats outstanding) = RunEnds

abbrev pub output_act : PlainOutputKind → Act
output_act (SetupScriptFinished stress index total script program args no_capture status) =
    ScriptEnds index script
output_act (TestAttemptFailedWillRetry stress test status delay failure running) = AttemptFails test
output_act (TestFinished stress test success failure store_success store_failure flaky statuses
    current_stats running) =
    TestEnds test (stats.failures current_stats)

abbrev pub act_of : PlainKind → Act
act_of (Core kind) = core_act kind
act_of (Output kind) = output_act kind
