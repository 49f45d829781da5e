-- The kinds of events that hold outputs: their names, members and forms,
-- and what holds of their fields.
use Rattle.std.specs.Prelude.{ℕ, ◌^◌, ◌<◌, IfSome, Bool, List, [], ◌∷◌, ◌++◌, Option, Some, codes}
use Rattle.serde_json.specs.Data.{Data, Members, boolean}
use Rattle.serde_json.specs.Find.{as_bool}
use Rattle.rec_json.specs.Fields.{in_order}
use Rattle.rec_events.specs.declared.events.OutputEventKind.TheVariants.{
  SetupScriptFinished,
  TestAttemptFailedWillRetry,
  TestFinished,
}
use Rattle.rec_events.specs.declared.events.OutputEventKind.{OutputEventKind}
use Rattle.rec_events.specs.declared.instances.OwnedTestInstanceId.{OwnedTestInstanceId}
use Rattle.rec_events.specs.declared.instances.StressIndexSummary.{StressIndexSummary}
use Rattle.rec_events.specs.declared.reporting.JunitFlakyFailStatus.{JunitFlakyFailStatus}
use Rattle.rec_events.specs.declared.reporting.TestOutputDisplay.{TestOutputDisplay}
use Rattle.rec_events.specs.Names.{IsText, AreTexts}
use Rattle.rec_events.specs.Times.{Span, Moment}
use Rattle.rec_forms.specs.Instances.{test_instance_value, test_instance_form, IsTestInstance}
use Rattle.rec_forms.specs.Instances.{stress_index_value, stress_index_form, IsStressIndex}
use Rattle.rec_forms.specs.Numbers.{u64_form}
use Rattle.rec_forms.specs.Reporting.{output_display_value, output_display_form}
use Rattle.rec_forms.specs.Reporting.{flaky_fail_status_value, flaky_fail_status_form}
use Rattle.rec_forms.specs.Shape.{◌>>=◌, Field, natural, field, optional, required, maybe}
use Rattle.rec_forms.specs.Stats.{run_stats_value, run_stats_form, IsRunStats}
use Rattle.rec_forms.specs.Times.{stamp_value, IsStamp, duration_value, duration_form, IsDuration}
use Rattle.rec_codec.specs.CoreKindForms.{place_form, command_form}
use Rattle.rec_codec.specs.CoreKinds.{kind_field, place_fields, command_fields}
use Rattle.rec_codec.specs.declared.output_kinds.Reporting.{Reporting}
use Rattle.rec_codec.specs.EventParts.{times_fields}
use Rattle.rec_codec.specs.ScriptStatus.{script_status_value, script_status_form}
use Rattle.rec_codec.specs.ScriptStatus.{script_status_loaded, IsScriptStatus}
use Rattle.rec_codec.specs.Status.{status_value, status_form, status_loaded, IsStatus}
use Rattle.rec_codec.specs.Status.{statuses_value, statuses_form, statuses_loaded, AreStatuses}

-- the name of each kind
abbrev pub output_name : {S O : Type 0} → OutputEventKind S O → List ℕ
output_name
    (SetupScriptFinished stress_index index total script_id program args no_capture run_status) =
    codes "setup-script-finished"
output_name (TestAttemptFailedWillRetry stress_index test_instance run_status
    delay_before_next_attempt failure_output running) =
    codes "test-attempt-failed-will-retry"
output_name (TestFinished stress_index test_instance success_output failure_output store_success
    store_failure flaky_fail_status run_statuses current_stats running) =
    codes "test-finished"

-- ---- how a finished test is reported

-- its fields that are next to each other, in the order in which they are written
abbrev pub reporting_part : TestOutputDisplay → JunitFlakyFailStatus → Bool → Bool → List Field
reporting_part failure_output flaky_fail_status store_failure store_success =
    field (codes "failure-output") (output_display_value failure_output)
    ∷ field (codes "junit-flaky-fail-status") (flaky_fail_status_value flaky_fail_status)
    ∷ field (codes "junit-store-failure-output") (boolean store_failure)
    ∷ field (codes "junit-store-success-output") (boolean store_success)
    ∷ []

abbrev pub reporting_fields : Reporting → List Field
reporting_fields r =
    field (codes "success-output") (output_display_value r.success_output)
    ∷ reporting_part r.failure_output r.junit_flaky_fail_status r.junit_store_failure_output
    r.junit_store_success_output

unfoldable pub reporting_form : Members → Option Reporting
reporting_form ms = do
  success_output ← required output_display_form (codes "success-output") ms
  failure_output ← required output_display_form (codes "failure-output") ms
  junit_store_success_output ← required as_bool (codes "junit-store-success-output") ms
  junit_store_failure_output ← required as_bool (codes "junit-store-failure-output") ms
  junit_flaky_fail_status ← required flaky_fail_status_form (codes "junit-flaky-fail-status") ms
  Some (record {
    success_output = success_output;
    failure_output = failure_output;
    junit_store_success_output = junit_store_success_output;
    junit_store_failure_output = junit_store_failure_output;
    junit_flaky_fail_status = junit_flaky_fail_status;
  })

-- ---- the members of each kind

module _ {S O : Type 0} (output_value : O → Data) where
  abbrev pub output_members : OutputEventKind S O → List Field
  output_members
      (SetupScriptFinished stress_index index total script_id program args no_capture run_status) =
      place_fields stress_index index total
      ++ command_fields script_id program args
      ++ field (codes "no-capture") (boolean no_capture)
      ∷ field (codes "run-status") (script_status_value output_value run_status)
      ∷ []
  output_members (TestAttemptFailedWillRetry stress_index test_instance run_status
      delay_before_next_attempt failure_output running) =
      optional (codes "stress-index") stress_index_value stress_index
      ∷ field (codes "test-instance") (test_instance_value test_instance)
      ∷ field (codes "run-status") (status_value output_value run_status)
      ∷ field (codes "delay-before-next-attempt") (duration_value delay_before_next_attempt)
      ∷ field (codes "failure-output") (output_display_value failure_output)
      ∷ field (codes "running") (natural running)
      ∷ []
  output_members (TestFinished stress_index test_instance success_output failure_output
      store_success store_failure flaky_fail_status run_statuses current_stats running) =
      optional (codes "stress-index") stress_index_value stress_index
      ∷ field (codes "test-instance") (test_instance_value test_instance)
      ∷ reporting_fields (record {
        success_output = success_output;
        failure_output = failure_output;
        junit_store_success_output = store_success;
        junit_store_failure_output = store_failure;
        junit_flaky_fail_status = flaky_fail_status;
      })
      ++ field (codes "run-statuses") (statuses_value output_value run_statuses)
      ∷ field (codes "current-stats") (run_stats_value current_stats)
      ∷ field (codes "running") (natural running)
      ∷ []

  -- a kind as it stands among the members of its event
  abbrev pub output_fields : OutputEventKind S O → List Field
  output_fields kind = kind_field (output_name kind) ∷ output_members kind

  -- an event of such a kind, as it is written
  abbrev pub output_event_fields : Moment → Span → OutputEventKind S O → List Field
  output_event_fields timestamp elapsed kind =
      in_order (times_fields timestamp elapsed ++ output_fields kind)

-- which finished test it is, how its output was shown, and when
abbrev pub finished_part : Option StressIndexSummary → TestOutputDisplay → OwnedTestInstanceId
    → Moment → List Field
finished_part stress_index success_output test_instance timestamp =
    optional (codes "stress-index") stress_index_value stress_index
    ∷ field (codes "success-output") (output_display_value success_output)
    ∷ field (codes "test-instance") (test_instance_value test_instance)
    ∷ field (codes "timestamp") (stamp_value timestamp)
    ∷ []

-- ---- forms

module _ {S O : Type 0} (output_form : Data → Option O) where
  unfoldable pub script_finished_form : Members → Option (OutputEventKind S O)
  script_finished_form ms = do
    place ← place_form ms
    no_capture ← required as_bool (codes "no-capture") ms
    command ← command_form ms
    run_status ← required (script_status_form output_form) (codes "run-status") ms
    Some (SetupScriptFinished place.stress_index place.index place.total command.script_id
        command.program command.args no_capture run_status)

  unfoldable pub attempt_failed_form : Members → Option (OutputEventKind S O)
  attempt_failed_form ms = do
    stress_index ← maybe stress_index_form (codes "stress-index") ms
    test_instance ← required test_instance_form (codes "test-instance") ms
    run_status ← required (status_form output_form) (codes "run-status") ms
    delay_before_next_attempt ← required duration_form (codes "delay-before-next-attempt") ms
    failure_output ← required output_display_form (codes "failure-output") ms
    running ← required u64_form (codes "running") ms
    Some (TestAttemptFailedWillRetry stress_index test_instance run_status delay_before_next_attempt
        failure_output running)

  unfoldable pub test_finished_form : Members → Option (OutputEventKind S O)
  test_finished_form ms = do
    reporting ← reporting_form ms
    stress_index ← maybe stress_index_form (codes "stress-index") ms
    test_instance ← required test_instance_form (codes "test-instance") ms
    run_statuses ← required (statuses_form output_form) (codes "run-statuses") ms
    current_stats ← required run_stats_form (codes "current-stats") ms
    running ← required u64_form (codes "running") ms
    Some (TestFinished
        stress_index
        test_instance
        reporting.success_output
        reporting.failure_output
        reporting.junit_store_success_output
        reporting.junit_store_failure_output
        reporting.junit_flaky_fail_status
        run_statuses
        current_stats
        running)

-- ---- whether the outputs are there

module _ {S O : Type 0} (loaded : O → Bool) where
  abbrev pub output_loaded : OutputEventKind S O → Bool
  output_loaded
      (SetupScriptFinished stress_index index total script_id program args no_capture run_status) =
      script_status_loaded loaded run_status
  output_loaded (TestAttemptFailedWillRetry stress_index test_instance run_status
      delay_before_next_attempt failure_output running) =
      status_loaded loaded run_status
  output_loaded (TestFinished stress_index test_instance success_output failure_output store_success
      store_failure flaky_fail_status run_statuses current_stats running) =
      statuses_loaded loaded run_statuses

-- ---- what is well-formed

module _ {S O : Type 0} (P : O → Type 0) where
  abbrev pub IsOutput : OutputEventKind S O → Type 0
  IsOutput
      (SetupScriptFinished stress_index index total script_id program args no_capture run_status) =
      IfSome stress_index IsStressIndex
      × (index < 2 ^ 64)
      × (total < 2 ^ 64)
      × IsText script_id
      × IsText program
      × AreTexts args
      × IsScriptStatus P run_status
  IsOutput (TestAttemptFailedWillRetry stress_index test_instance run_status
      delay_before_next_attempt failure_output running) =
      IfSome stress_index IsStressIndex
      × IsTestInstance test_instance
      × IsStatus P run_status
      × IsDuration delay_before_next_attempt
      × (running < 2 ^ 64)
  IsOutput (TestFinished stress_index test_instance success_output failure_output store_success
      store_failure flaky_fail_status run_statuses current_stats running) =
      IfSome stress_index IsStressIndex
      × IsTestInstance test_instance
      × AreStatuses P run_statuses
      × IsRunStats current_stats
      × (running < 2 ^ 64)

  abbrev pub IsOutputEvent : Moment → Span → OutputEventKind S O → Type 0
  IsOutputEvent timestamp elapsed kind = IsStamp timestamp × IsDuration elapsed × IsOutput kind
