-- The kinds of events that hold no outputs: their names and members,
-- and what holds of their fields.
use Rattle.std.specs.Prelude.{ℕ, ◌^◌, ◌<◌, IfSome, List, [], ◌∷◌, ◌++◌, Option, codes}
use Rattle.serde_json.specs.Data.{string, boolean}
use Rattle.rec_events.specs.declared.events.CoreEventKind.TheVariants.{
  RunStarted,
  StressSubRunStarted,
  SetupScriptStarted,
  SetupScriptSlow,
  TestStarted,
  TestSlow,
  TestRetryStarted,
  TestSkipped,
  RunBeginCancel,
  RunPaused,
  RunContinued,
  StressSubRunFinished,
  RunFinished,
}
use Rattle.rec_events.specs.declared.events.CoreEventKind.{CoreEventKind}
use Rattle.rec_events.specs.declared.instances.StressIndexSummary.{StressIndexSummary}
use Rattle.rec_events.specs.Names.{IsText, AreTexts}
use Rattle.rec_forms.specs.Ids.{uuid_value, IsUuid}
use Rattle.rec_forms.specs.Instances.{test_instance_value, IsTestInstance}
use Rattle.rec_forms.specs.Instances.{slot_assignment_value, IsSlotAssignment, retry_data_value}
use Rattle.rec_forms.specs.Instances.{IsRetryData, stress_index_value, IsStressIndex}
use Rattle.rec_forms.specs.Lists.{list_value}
use Rattle.rec_forms.specs.Reporting.{cancel_reason_value}
use Rattle.rec_forms.specs.RunEnds.{run_finished_stats_value, IsRunFinishedStats}
use Rattle.rec_forms.specs.RunEnds.{tests_not_seen_value, IsTestsNotSeen}
use Rattle.rec_forms.specs.Shape.{Field, natural, field, optional}
use Rattle.rec_forms.specs.Skipping.{mismatch_reason_value, skip_policy_value}
use Rattle.rec_forms.specs.Stats.{run_stats_value, IsRunStats}
use Rattle.rec_forms.specs.Stress.{stress_condition_value, IsStressCondition}
use Rattle.rec_forms.specs.Stress.{stress_progress_value, IsStressProgress}
use Rattle.rec_forms.specs.Times.{stamp_value, IsStamp, duration_value, IsDuration}

-- the name of a kind
abbrev pub kind_field : List ℕ → Field
kind_field name = field (codes "kind") (string name)

-- the name of each kind
abbrev pub core_name : CoreEventKind → List ℕ
core_name (RunStarted run_id profile_name cli_args stress_condition) = codes "run-started"
core_name (StressSubRunStarted progress) = codes "stress-sub-run-started"
core_name (SetupScriptStarted stress_index index total script_id program args no_capture) =
    codes "setup-script-started"
core_name (SetupScriptSlow stress_index script_id program args elapsed will_terminate) =
    codes "setup-script-slow"
core_name
    (TestStarted stress_index test_instance slot_assignment current_stats running command_line) =
    codes "test-started"
core_name (TestSlow stress_index test_instance retry_data elapsed will_terminate) =
    codes "test-slow"
core_name
    (TestRetryStarted stress_index test_instance slot_assignment retry_data running command_line) =
    codes "test-retry-started"
core_name (TestSkipped stress_index test_instance reason junit_report_skipped) =
    codes "test-skipped"
core_name (RunBeginCancel setup_scripts_running running reason) = codes "run-begin-cancel"
core_name (RunPaused setup_scripts_running running) = codes "run-paused"
core_name (RunContinued setup_scripts_running running) = codes "run-continued"
core_name (StressSubRunFinished progress sub_elapsed sub_stats) = codes "stress-sub-run-finished"
core_name (RunFinished run_id start_time elapsed run_stats outstanding_not_seen) =
    codes "run-finished"

-- how many setup scripts and tests run
abbrev pub running_fields : ℕ → ℕ → List Field
running_fields setup_scripts_running running =
    field (codes "setup-scripts-running") (natural setup_scripts_running)
    ∷ field (codes "running") (natural running)
    ∷ []

-- which setup script it is: the one with so many before it, of how many
abbrev pub place_fields : Option StressIndexSummary → ℕ → ℕ → List Field
place_fields stress_index index total =
    optional (codes "stress-index") stress_index_value stress_index
    ∷ field (codes "index") (natural index)
    ∷ field (codes "total") (natural total)
    ∷ []

-- what a setup script runs
abbrev pub command_fields : List ℕ → List ℕ → List (List ℕ) → List Field
command_fields script_id program args =
    field (codes "script-id") (string script_id)
    ∷ field (codes "program") (string program)
    ∷ field (codes "args") (list_value string args)
    ∷ []

-- its members
abbrev pub core_members : CoreEventKind → List Field
core_members (RunStarted run_id profile_name cli_args stress_condition) =
    field (codes "run-id") (uuid_value run_id)
    ∷ field (codes "profile-name") (string profile_name)
    ∷ field (codes "cli-args") (list_value string cli_args)
    ∷ optional (codes "stress-condition") stress_condition_value stress_condition
    ∷ []
core_members (StressSubRunStarted progress) =
    field (codes "progress") (stress_progress_value progress)
    ∷ []
core_members (SetupScriptStarted stress_index index total script_id program args no_capture) =
    place_fields stress_index index total ++ command_fields script_id program args
    ++ field (codes "no-capture") (boolean no_capture) ∷ []
core_members (SetupScriptSlow stress_index script_id program args elapsed will_terminate) =
    optional (codes "stress-index") stress_index_value stress_index
    ∷ command_fields script_id program args
    ++ field (codes "slow-elapsed") (duration_value elapsed)
    ∷ field (codes "will-terminate") (boolean will_terminate)
    ∷ []
core_members
    (TestStarted stress_index test_instance slot_assignment current_stats running command_line) =
    optional (codes "stress-index") stress_index_value stress_index
    ∷ field (codes "test-instance") (test_instance_value test_instance)
    ∷ field (codes "slot-assignment") (slot_assignment_value slot_assignment)
    ∷ field (codes "current-stats") (run_stats_value current_stats)
    ∷ field (codes "running") (natural running)
    ∷ field (codes "command-line") (list_value string command_line)
    ∷ []
core_members (TestSlow stress_index test_instance retry_data elapsed will_terminate) =
    optional (codes "stress-index") stress_index_value stress_index
    ∷ field (codes "test-instance") (test_instance_value test_instance)
    ∷ field (codes "retry-data") (retry_data_value retry_data)
    ∷ field (codes "slow-elapsed") (duration_value elapsed)
    ∷ field (codes "will-terminate") (boolean will_terminate)
    ∷ []
core_members
    (TestRetryStarted stress_index test_instance slot_assignment retry_data running command_line) =
    optional (codes "stress-index") stress_index_value stress_index
    ∷ field (codes "test-instance") (test_instance_value test_instance)
    ∷ field (codes "slot-assignment") (slot_assignment_value slot_assignment)
    ∷ field (codes "retry-data") (retry_data_value retry_data)
    ∷ field (codes "running") (natural running)
    ∷ field (codes "command-line") (list_value string command_line)
    ∷ []
core_members (TestSkipped stress_index test_instance reason junit_report_skipped) =
    optional (codes "stress-index") stress_index_value stress_index
    ∷ field (codes "test-instance") (test_instance_value test_instance)
    ∷ field (codes "reason") (mismatch_reason_value reason)
    ∷ field (codes "junit-report-skipped") (skip_policy_value junit_report_skipped)
    ∷ []
core_members (RunBeginCancel setup_scripts_running running reason) =
    running_fields setup_scripts_running running
    ++ field (codes "reason") (cancel_reason_value reason) ∷ []
core_members (RunPaused setup_scripts_running running) =
    running_fields setup_scripts_running running
core_members (RunContinued setup_scripts_running running) =
    running_fields setup_scripts_running running
core_members (StressSubRunFinished progress sub_elapsed sub_stats) =
    field (codes "progress") (stress_progress_value progress)
    ∷ field (codes "sub-elapsed") (duration_value sub_elapsed)
    ∷ field (codes "sub-stats") (run_stats_value sub_stats)
    ∷ []
core_members (RunFinished run_id start_time elapsed run_stats outstanding_not_seen) =
    field (codes "run-id") (uuid_value run_id)
    ∷ field (codes "start-time") (stamp_value start_time)
    ∷ field (codes "run-elapsed") (duration_value elapsed)
    ∷ field (codes "run-stats") (run_finished_stats_value run_stats)
    ∷ optional (codes "outstanding-not-seen") tests_not_seen_value outstanding_not_seen
    ∷ []

-- what holds of the fields that a program has
abbrev pub IsCore : CoreEventKind → Type 0
IsCore (RunStarted run_id profile_name cli_args stress_condition) =
    IsUuid run_id × IsText profile_name × AreTexts cli_args
    × IfSome stress_condition IsStressCondition
IsCore (StressSubRunStarted progress) = IsStressProgress progress
IsCore (SetupScriptStarted stress_index index total script_id program args no_capture) =
    IfSome stress_index IsStressIndex × (index < 2 ^ 64) × (total < 2 ^ 64) × IsText script_id
    × IsText program × AreTexts args
IsCore (SetupScriptSlow stress_index script_id program args elapsed will_terminate) =
    IfSome stress_index IsStressIndex × IsText script_id × IsText program × AreTexts args
    × IsDuration elapsed
IsCore (TestStarted stress_index test_instance slot_assignment current_stats running command_line) =
    IfSome stress_index IsStressIndex × IsTestInstance test_instance
    × IsSlotAssignment slot_assignment × IsRunStats current_stats × (running < 2 ^ 64)
    × AreTexts command_line
IsCore (TestSlow stress_index test_instance retry_data elapsed will_terminate) =
    IfSome stress_index IsStressIndex × IsTestInstance test_instance × IsRetryData retry_data
    × IsDuration elapsed
IsCore
    (TestRetryStarted stress_index test_instance slot_assignment retry_data running command_line) =
    IfSome stress_index IsStressIndex × IsTestInstance test_instance
    × IsSlotAssignment slot_assignment × IsRetryData retry_data × (running < 2 ^ 64)
    × AreTexts command_line
IsCore (TestSkipped stress_index test_instance reason junit_report_skipped) =
    IfSome stress_index IsStressIndex × IsTestInstance test_instance
IsCore (RunBeginCancel setup_scripts_running running reason) =
    (setup_scripts_running < 2 ^ 64) × (running < 2 ^ 64)
IsCore (RunPaused setup_scripts_running running) =
    (setup_scripts_running < 2 ^ 64) × (running < 2 ^ 64)
IsCore (RunContinued setup_scripts_running running) =
    (setup_scripts_running < 2 ^ 64) × (running < 2 ^ 64)
IsCore (StressSubRunFinished progress sub_elapsed sub_stats) =
    IsStressProgress progress × IsDuration sub_elapsed × IsRunStats sub_stats
IsCore (RunFinished run_id start_time elapsed run_stats outstanding_not_seen) =
    IsUuid run_id × IsStamp start_time × IsDuration elapsed × IsRunFinishedStats run_stats
    × IfSome outstanding_not_seen IsTestsNotSeen

-- a kind as it stands among the members of its event
abbrev pub core_fields : CoreEventKind → List Field
core_fields kind = kind_field (core_name kind) ∷ core_members kind
