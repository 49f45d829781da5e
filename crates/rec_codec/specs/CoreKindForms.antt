-- The kinds of events that hold no outputs, as the members of an event stand for them.
use Rattle.std.specs.Prelude.{ℕ, ◌^◌, ◌<◌, IfSome, List, [], ◌∷◌, ◌++◌, Option, Some, codes}
use Rattle.serde_json.specs.Data.{Members}
use Rattle.serde_json.specs.Find.{as_bool}
use Rattle.rec_events.specs.declared.events.CoreEventKind.TheVariants.{
  RunStarted,
  StressSubRunStarted,
  SetupScriptStarted,
  SetupScriptSlow,
  TestStarted,
  TestSlow,
  TestRetryStarted,
  TestSkipped,
  RunBeginCancel,
  RunPaused,
  RunContinued,
  StressSubRunFinished,
  RunFinished,
}
use Rattle.rec_events.specs.declared.events.CoreEventKind.{CoreEventKind}
use Rattle.rec_events.specs.Names.{IsText, AreTexts}
use Rattle.rec_forms.specs.Ids.{uuid_form}
use Rattle.rec_forms.specs.Instances.{test_instance_form, slot_assignment_form}
use Rattle.rec_forms.specs.Instances.{retry_data_form, stress_index_form, IsStressIndex}
use Rattle.rec_forms.specs.Lists.{list_form}
use Rattle.rec_forms.specs.Numbers.{u64_form}
use Rattle.rec_forms.specs.Reporting.{cancel_reason_form}
use Rattle.rec_forms.specs.RunEnds.{run_finished_stats_form, tests_not_seen_form}
use Rattle.rec_forms.specs.Shape.{◌>>=◌, required, maybe, text_of, named}
use Rattle.rec_forms.specs.Skipping.{mismatch_reason_form, skip_policy_form}
use Rattle.rec_forms.specs.Stats.{run_stats_form}
use Rattle.rec_forms.specs.Stress.{stress_condition_form, stress_progress_form}
use Rattle.rec_forms.specs.Times.{stamp_form, duration_form}
use Rattle.rec_codec.specs.declared.script_kinds.Command.{Command}
use Rattle.rec_codec.specs.declared.script_kinds.Place.{Place}

unfoldable pub run_started_form : Members → Option CoreEventKind
run_started_form ms = do
  run_id ← required uuid_form (codes "run-id") ms
  profile_name ← required text_of (codes "profile-name") ms
  cli_args ← required (list_form text_of) (codes "cli-args") ms
  stress_condition ← maybe stress_condition_form (codes "stress-condition") ms
  Some (RunStarted run_id profile_name cli_args stress_condition)

unfoldable pub stress_sub_run_started_form : Members → Option CoreEventKind
stress_sub_run_started_form ms = do
  progress ← required stress_progress_form (codes "progress") ms
  Some (StressSubRunStarted progress)

-- which setup script it is
unfoldable pub place_form : Members → Option Place
place_form ms = do
  stress_index ← maybe stress_index_form (codes "stress-index") ms
  index ← required u64_form (codes "index") ms
  total ← required u64_form (codes "total") ms
  Some (record { stress_index = stress_index; index = index; total = total })

pub record IsPlace (p : Place) : Type 0 where
  pub stress_index : IfSome p.stress_index IsStressIndex
  pub index : p.index < 2 ^ 64
  pub total : p.total < 2 ^ 64

-- what a setup script runs
unfoldable pub command_form : Members → Option Command
command_form ms = do
  script_id ← required text_of (codes "script-id") ms
  program ← required text_of (codes "program") ms
  args ← required (list_form text_of) (codes "args") ms
  Some (record { script_id = script_id; program = program; args = args })

pub record IsCommand (c : Command) : Type 0 where
  pub script_id : IsText c.script_id
  pub program : IsText c.program
  pub args : AreTexts c.args

unfoldable pub setup_script_started_form : Members → Option CoreEventKind
setup_script_started_form ms = do
  place ← place_form ms
  no_capture ← required as_bool (codes "no-capture") ms
  command ← command_form ms
  Some (SetupScriptStarted place.stress_index place.index place.total command.script_id
      command.program command.args no_capture)

unfoldable pub setup_script_slow_form : Members → Option CoreEventKind
setup_script_slow_form ms = do
  stress_index ← maybe stress_index_form (codes "stress-index") ms
  elapsed ← required duration_form (codes "slow-elapsed") ms
  will_terminate ← required as_bool (codes "will-terminate") ms
  command ← command_form ms
  Some (SetupScriptSlow stress_index command.script_id command.program command.args elapsed
      will_terminate)

unfoldable pub test_started_form : Members → Option CoreEventKind
test_started_form ms = do
  stress_index ← maybe stress_index_form (codes "stress-index") ms
  test_instance ← required test_instance_form (codes "test-instance") ms
  slot_assignment ← required slot_assignment_form (codes "slot-assignment") ms
  current_stats ← required run_stats_form (codes "current-stats") ms
  running ← required u64_form (codes "running") ms
  command_line ← required (list_form text_of) (codes "command-line") ms
  Some (TestStarted stress_index test_instance slot_assignment current_stats running command_line)

unfoldable pub test_slow_form : Members → Option CoreEventKind
test_slow_form ms = do
  stress_index ← maybe stress_index_form (codes "stress-index") ms
  test_instance ← required test_instance_form (codes "test-instance") ms
  retry_data ← required retry_data_form (codes "retry-data") ms
  elapsed ← required duration_form (codes "slow-elapsed") ms
  will_terminate ← required as_bool (codes "will-terminate") ms
  Some (TestSlow stress_index test_instance retry_data elapsed will_terminate)

unfoldable pub test_retry_started_form : Members → Option CoreEventKind
test_retry_started_form ms = do
  stress_index ← maybe stress_index_form (codes "stress-index") ms
  test_instance ← required test_instance_form (codes "test-instance") ms
  slot_assignment ← required slot_assignment_form (codes "slot-assignment") ms
  retry_data ← required retry_data_form (codes "retry-data") ms
  running ← required u64_form (codes "running") ms
  command_line ← required (list_form text_of) (codes "command-line") ms
  Some (TestRetryStarted stress_index test_instance slot_assignment retry_data running command_line)

unfoldable pub test_skipped_form : Members → Option CoreEventKind
test_skipped_form ms = do
  stress_index ← maybe stress_index_form (codes "stress-index") ms
  test_instance ← required test_instance_form (codes "test-instance") ms
  reason ← required mismatch_reason_form (codes "reason") ms
  junit_report_skipped ← required skip_policy_form (codes "junit-report-skipped") ms
  Some (TestSkipped stress_index test_instance reason junit_report_skipped)

unfoldable pub run_begin_cancel_form : Members → Option CoreEventKind
run_begin_cancel_form ms = do
  setup_scripts_running ← required u64_form (codes "setup-scripts-running") ms
  running ← required u64_form (codes "running") ms
  reason ← required cancel_reason_form (codes "reason") ms
  Some (RunBeginCancel setup_scripts_running running reason)

unfoldable pub run_paused_form : Members → Option CoreEventKind
run_paused_form ms = do
  setup_scripts_running ← required u64_form (codes "setup-scripts-running") ms
  running ← required u64_form (codes "running") ms
  Some (RunPaused setup_scripts_running running)

unfoldable pub run_continued_form : Members → Option CoreEventKind
run_continued_form ms = do
  setup_scripts_running ← required u64_form (codes "setup-scripts-running") ms
  running ← required u64_form (codes "running") ms
  Some (RunContinued setup_scripts_running running)

unfoldable pub stress_sub_run_finished_form : Members → Option CoreEventKind
stress_sub_run_finished_form ms = do
  progress ← required stress_progress_form (codes "progress") ms
  sub_elapsed ← required duration_form (codes "sub-elapsed") ms
  sub_stats ← required run_stats_form (codes "sub-stats") ms
  Some (StressSubRunFinished progress sub_elapsed sub_stats)

unfoldable pub run_finished_form : Members → Option CoreEventKind
run_finished_form ms = do
  run_id ← required uuid_form (codes "run-id") ms
  start_time ← required stamp_form (codes "start-time") ms
  elapsed ← required duration_form (codes "run-elapsed") ms
  run_stats ← required run_finished_stats_form (codes "run-stats") ms
  outstanding_not_seen ← maybe tests_not_seen_form (codes "outstanding-not-seen") ms
  Some (RunFinished run_id start_time elapsed run_stats outstanding_not_seen)

-- ---- each kind by its name

abbrev pub run_kinds : List (List ℕ × (Members → Option CoreEventKind))
run_kinds =
    (codes "run-started", run_started_form)
    ∷ (codes "stress-sub-run-started", stress_sub_run_started_form)
    ∷ (codes "run-begin-cancel", run_begin_cancel_form)
    ∷ (codes "run-paused", run_paused_form)
    ∷ (codes "run-continued", run_continued_form)
    ∷ (codes "stress-sub-run-finished", stress_sub_run_finished_form)
    ∷ (codes "run-finished", run_finished_form)
    ∷ []

abbrev pub script_kinds : List (List ℕ × (Members → Option CoreEventKind))
script_kinds =
    (codes "setup-script-started", setup_script_started_form)
    ∷ (codes "setup-script-slow", setup_script_slow_form) ∷ []

abbrev pub test_kinds : List (List ℕ × (Members → Option CoreEventKind))
test_kinds =
    (codes "test-started", test_started_form)
    ∷ (codes "test-slow", test_slow_form)
    ∷ (codes "test-retry-started", test_retry_started_form)
    ∷ (codes "test-skipped", test_skipped_form)
    ∷ []

abbrev pub core_kinds : List (List ℕ × (Members → Option CoreEventKind))
core_kinds = run_kinds ++ script_kinds ++ test_kinds

-- the kind that has this name in a table
unfoldable pub kind_in : List (List ℕ × (Members → Option CoreEventKind)) → List ℕ → Members
    → Option CoreEventKind
kind_in kinds name ms = named kinds name >>= λ form. form ms
