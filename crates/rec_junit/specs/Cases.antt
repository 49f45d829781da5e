-- The cases of a report.
use Rattle.std.specs.Prelude.{ℕ, List, [], ◌++◌, codes, Option, Some, None}
use Rattle.std.specs.Prelude.{Bool, true, false, not, if◌then◌else◌, Result, Ok}
use Rattle.rec_events.specs.declared.instances.OwnedTestInstanceId.{OwnedTestInstanceId}
use Rattle.rec_events.specs.declared.outputs.ChildOutputDescription.{ChildOutputDescription}
use Rattle.rec_events.specs.declared.outputs.LiveSpec.{LiveSpec}
use Rattle.rec_events.specs.declared.reporting.JunitFlakyFailStatus.TheVariants as reported
use Rattle.rec_events.specs.declared.reporting.JunitFlakyFailStatus.{JunitFlakyFailStatus}
use Rattle.rec_events.specs.declared.results.FlakyResult.TheVariants as flaky
use Rattle.rec_events.specs.declared.results.FlakyResult.{FlakyResult}
use Rattle.rec_events.specs.declared.script_statuses.SetupScriptExecuteStatus.{
  SetupScriptExecuteStatus,
}
use Rattle.rec_events.specs.declared.skipping.MismatchReason.TheVariants as reason
use Rattle.rec_events.specs.declared.skipping.MismatchReason.{MismatchReason}
use Rattle.rec_events.specs.Results.{succeeded, flaky_text}
use Rattle.rec_junit.specs.Attempts.{Attempts, Passed, Flaky, Failed, main_of, has_failed}
use Rattle.rec_junit.specs.declared.describer.ErrorText.{ErrorText}
use Rattle.rec_junit.specs.declared.errors.JunitError.TheVariants.{SuccessAsFailure}
use Rattle.rec_junit.specs.declared.errors.JunitError.{JunitError}
use Rattle.rec_junit.specs.declared.failing.FailureKind.{FailureKind}
use Rattle.rec_junit.specs.declared.report.JunitCase.{JunitCase}
use Rattle.rec_junit.specs.declared.report.JunitKind.TheVariants as kind
use Rattle.rec_junit.specs.declared.report.JunitRerun.{JunitRerun}
use Rattle.rec_junit.specs.declared.report.JunitRerunKind.TheVariants as rerun
use Rattle.rec_junit.specs.declared.report.JunitStatus.TheVariants.{Success, NonSuccess, Skipped}
use Rattle.rec_junit.specs.declared.report.JunitStatus.{JunitStatus}
use Rattle.rec_junit.specs.declared.reruns.Storing.{Storing}
use Rattle.rec_junit.specs.declared.stored_outputs.StoredOutput.{StoredOutput}
use Rattle.rec_junit.specs.Describing.{Execution}
use Rattle.rec_junit.specs.Failing.{failing, script_unit}
use Rattle.rec_junit.specs.Judging.{◌>>=◌, or_refused}
use Rattle.rec_junit.specs.Reruns.{Status, message_of, description_of, reruns_of}
use Rattle.rec_junit.specs.StoredOutputs.{stored_output}

-- a script's run, with its outputs as they are captured
abbrev pub ScriptStatus : Type 0
ScriptStatus = SetupScriptExecuteStatus LiveSpec ChildOutputDescription

-- whether the output of a case is stored that failed, or didn't
abbrev pub stores : Storing → Bool → Bool
stores storing failed = if failed then storing.failure else storing.success

-- what the describer says, in place of what was said before
abbrev pub said_after : Option (List ℕ) → Option ErrorText → Option (List ℕ)
said_after earlier None = earlier
said_after earlier (Some text) = Some text.message

abbrev pub failed_status : FailureKind → Option ErrorText → List JunitRerun → JunitStatus
failed_status kind text reruns =
    NonSuccess kind.kind kind.type_text (message_of text) (description_of text) reruns rerun.Rerun

-- a test that passed at last, after attempts that failed; it may count as failed,
-- and may be reported so
abbrev pub flaky_status : FlakyResult → JunitFlakyFailStatus → Status → Option ErrorText
    → List JunitRerun → JunitStatus
flaky_status flaky.Pass status main text reruns = Success reruns
flaky_status flaky.Fail reported.Success main text reruns = Success reruns
flaky_status flaky.Fail reported.Failure main text reruns =
    NonSuccess kind.Failure (codes "flaky failure")
    (said_after (flaky_text flaky.Fail main.retry_data.attempt main.retry_data.total_attempts) text)
    (description_of text)
    reruns rerun.Flaky

-- what a test is called, what is said of outputs, and whether the outputs of attempts that failed
-- are stored
module _ (unit : List ℕ) (text_of : Execution → Option ErrorText) (stores_failure : Bool) where
  -- a test whose last attempt failed: the first attempt is judged before its reruns
  abbrev pub failed_test : Status → List Status → Result JunitStatus JunitError
  failed_test first retries = do
    kind ← or_refused SuccessAsFailure (failing unit first.result)
    reruns ← reruns_of unit text_of stores_failure retries
    Ok (failed_status kind (text_of first.output) reruns)

  abbrev pub test_status : FlakyResult → JunitFlakyFailStatus → Attempts
      → Result JunitStatus JunitError
  test_status result status (Passed main) = Ok (Success [])
  test_status result status (Flaky main prior) = do
    reruns ← reruns_of unit text_of stores_failure prior
    Ok (flaky_status result status main (text_of main.output) reruns)
  test_status result status (Failed first retries) = failed_test first retries

-- a status with what was written, if it is stored
abbrev pub with_output : JunitStatus → Bool → Execution
    → Result (JunitStatus × StoredOutput) JunitError
with_output status is_stored execution = do
  output ← stored_output is_stored execution
  Ok (status, output)

-- the main attempt's output is judged last
abbrev pub judged_test :
    List ℕ → (Execution → Option ErrorText) → Storing → FlakyResult → JunitFlakyFailStatus
    → Attempts → Result (JunitStatus × StoredOutput) JunitError
judged_test unit text_of storing result fail_status attempts = do
  status ← test_status unit text_of storing.failure result fail_status attempts
  with_output status (stores storing (has_failed attempts)) (main_of attempts).output

abbrev pub test_case_with : OwnedTestInstanceId → Status → JunitStatus × StoredOutput → JunitCase
test_case_with test main judged = record {
  name = test.test_name;
  classname = test.binary_id;
  timestamp = Some main.start_time;
  time = Some main.time_taken;
  status = judged.0;
  system_out = judged.1.system_out;
  system_err = judged.1.system_err;
}

abbrev pub test_case : List ℕ → (Execution → Option ErrorText) → Storing → OwnedTestInstanceId
    → FlakyResult → JunitFlakyFailStatus → Attempts → Result JunitCase JunitError
test_case unit text_of storing test result fail_status attempts = do
  judged ← judged_test unit text_of storing result fail_status attempts
  Ok (test_case_with test (main_of attempts) judged)

-- ---- setup scripts

abbrev pub script_status_by : Bool → (Execution → Option ErrorText) → ScriptStatus
    → Result JunitStatus JunitError
script_status_by true text_of status = Ok (Success [])
script_status_by false text_of status = do
  kind ← or_refused SuccessAsFailure (failing script_unit status.result)
  Ok (failed_status kind (text_of status.output) [])

abbrev pub judged_script : Bool → (Execution → Option ErrorText) → Storing → ScriptStatus
    → Result (JunitStatus × StoredOutput) JunitError
judged_script has_passed text_of storing ran = do
  status ← script_status_by has_passed text_of ran
  with_output status (stores storing (not has_passed)) ran.output

abbrev pub script_case_with : List ℕ → List ℕ → ScriptStatus → JunitStatus × StoredOutput
    → JunitCase
script_case_with script suite ran judged = record {
  name = script;
  classname = suite;
  timestamp = Some ran.start_time;
  time = Some ran.time_taken;
  status = judged.0;
  system_out = judged.1.system_out;
  system_err = judged.1.system_err;
}

-- the case of a script in the suite of this name
abbrev pub script_case : (Execution → Option ErrorText) → Storing → List ℕ → List ℕ → ScriptStatus
    → Result JunitCase JunitError
script_case text_of storing script suite ran = do
  judged ← judged_script (succeeded ran.result) text_of storing ran
  Ok (script_case_with script suite ran judged)

-- ---- tests that don't run

abbrev pub reason_text : MismatchReason → List ℕ
reason_text reason.NotBenchmark = codes "is not a benchmark"
reason_text reason.Ignored = codes "does not match the run-ignored option"
reason_text reason.String = codes "does not match the provided string filters"
reason_text reason.Expression = codes "does not match the provided expression filters"
reason_text reason.Partition = codes "is in a different partition"
reason_text reason.RerunAlreadyPassed = codes "already passed"
reason_text reason.DefaultFilter = codes "is filtered out by the profile's default-filter"

-- it began at no time, and took none
abbrev pub skipped_case : OwnedTestInstanceId → MismatchReason → JunitCase
skipped_case test why = record {
  name = test.test_name;
  classname = test.binary_id;
  timestamp = None;
  time = Some (record { secs = 0; nanos = 0 });
  status = Skipped (codes "Skipped: test " ++ reason_text why);
  system_out = None;
  system_err = None;
}
