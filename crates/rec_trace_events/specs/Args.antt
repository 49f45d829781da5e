-- What the events of a trace say in their args. Their own keys have `_`; the values in them are
-- written as in a session.
use Rattle.std.specs.Option.{option_or}
use Rattle.std.specs.Prelude.{ℕ, nat_lt, ◌==◌, ◌&&◌, ◌-◌, not, List, [], ◌∷◌, ◌++◌, length}
use Rattle.std.specs.Prelude.{slice_get, Bool, Option, None, option_map, option_and_then, codes}
use Rattle.semver.specs.Parse.{Parts}
use Rattle.serde_json.specs.Data.{Data, boolean, string}
use Rattle.rec_events.specs.declared.groups.TestGroup.{TestGroup}
use Rattle.rec_events.specs.declared.instances.OwnedTestInstanceId.{OwnedTestInstanceId}
use Rattle.rec_events.specs.declared.instances.RetryData.{RetryData}
use Rattle.rec_events.specs.declared.instances.StressIndexSummary.{StressIndexSummary}
use Rattle.rec_events.specs.declared.results.ErrorSummary.{ErrorSummary}
use Rattle.rec_events.specs.declared.results.ExecutionResultDescription.{ExecutionResultDescription}
use Rattle.rec_events.specs.declared.results.FlakyResult.{FlakyResult}
use Rattle.rec_events.specs.declared.run_ends.RunFinishedStats.{RunFinishedStats}
use Rattle.rec_events.specs.declared.run_ends.TestsNotSeenSummary.{TestsNotSeenSummary}
use Rattle.rec_events.specs.declared.script_statuses.SetupScriptExecuteStatus.{
  SetupScriptExecuteStatus,
}
use Rattle.rec_events.specs.declared.stats.RunStats.{RunStats}
use Rattle.rec_events.specs.declared.statuses.ExecuteStatus.{ExecuteStatus}
use Rattle.rec_events.specs.declared.statuses.ExecutionStatuses.{ExecutionStatuses}
use Rattle.rec_events.specs.declared.stress.StressConditionSummary.{StressConditionSummary}
use Rattle.rec_events.specs.declared.stress.StressProgress.{StressProgress}
use Rattle.rec_events.specs.Results.{flaky_text, succeeded}
use Rattle.rec_events.specs.Times.{Span}
use Rattle.rec_forms.specs.Groups.{test_group_value}
use Rattle.rec_forms.specs.Ids.{uuid_value, version_value}
use Rattle.rec_forms.specs.Lists.{list_value}
use Rattle.rec_forms.specs.Results.{execution_result_value, flaky_result_value}
use Rattle.rec_forms.specs.RunEnds.{run_finished_stats_value}
use Rattle.rec_forms.specs.Shape.{Field, field, natural, only, optional, struct}
use Rattle.rec_forms.specs.Stats.{run_stats_value}
use Rattle.rec_forms.specs.Stress.{count_or_null, stress_condition_value, stress_progress_value}
use Rattle.rec_forms.specs.Times.{duration_value}

-- ---- parts

-- a member that may be left out
abbrev pub given : List ℕ → Option Data → Field
given key value = (key, value)

-- which run of a stress run it is, and of how many, or null
abbrev pub stress_index_args : StressIndexSummary → Data
stress_index_args s =
    struct (field (codes "current") (natural s.current)
    ∷ field (codes "total") (count_or_null s.total) ∷ [])

abbrev pub stress_index_field : Option StressIndexSummary → Field
stress_index_field s = optional (codes "stress_index") stress_index_args s

abbrev pub test_fields : OwnedTestInstanceId → List Field
test_fields test =
    field (codes "binary_id") (string test.binary_id)
    ∷ field (codes "test_name") (string test.test_name) ∷ []

-- which attempt it is, of how many
abbrev pub attempt_fields : RetryData → List Field
attempt_fields r =
    field (codes "attempt") (natural r.attempt)
    ∷ field (codes "total_attempts") (natural r.total_attempts) ∷ []

-- the words of a command, where there are some
abbrev pub command_line_field : List (List ℕ) → Field
command_line_field words =
    given (codes "command_line") (only (nat_lt 0 (length words)) (list_value string words))

-- a delay, where it is some time
abbrev pub delay_field : List ℕ → Span → Field
delay_field key d = given key (only (not (d.secs == 0 && d.nanos == 0)) (duration_value d))

-- how something ended that ran
abbrev pub ending_fields : Span → ExecutionResultDescription → Bool → List Field
ending_fields time_taken result is_slow =
    field (codes "time_taken") (duration_value time_taken)
    ∷ field (codes "result") (execution_result_value result)
    ∷ field (codes "is_slow") (boolean is_slow)
    ∷ []

-- how long something has run that is slow, and whether it is to be ended
abbrev pub slow_fields : Span → Bool → List Field
slow_fields elapsed will_terminate =
    field (codes "elapsed") (duration_value elapsed)
    ∷ field (codes "will_terminate") (boolean will_terminate) ∷ []

abbrev pub error_value : List ℕ → List ℕ → Data
error_value short_message description =
    struct (field (codes "short_message") (string short_message)
    ∷ field (codes "description") (string description) ∷ [])

abbrev pub summary_error : ErrorSummary → Data
summary_error s = error_value s.short_message s.description

-- what is said of a flaky test that counts as failed
abbrev pub flaky_error : RetryData → FlakyResult → Option Data
flaky_error r flaky =
    option_map (error_value (codes "flaky failure")) (flaky_text flaky r.attempt r.total_attempts)

-- the summary of the error, else what is said of a flaky test
abbrev pub error_of : Option ErrorSummary → RetryData → Option FlakyResult → Option Data
error_of summary r flaky =
    option_or (option_map summary_error summary) (option_and_then (flaky_error r) flaky)

-- ---- the run and the runs of a stress run

unfoldable pub run_begin_args : Parts → List ℕ → List ℕ → List (List ℕ)
    → Option StressConditionSummary → Data
run_begin_args version run_id profile cli_args stress_condition = struct (
    field (codes "nextest_version") (version_value version)
    ∷ field (codes "run_id") (uuid_value run_id)
    ∷ field (codes "profile") (string profile)
    ∷ field (codes "cli_args") (list_value string cli_args)
    ∷ optional (codes "stress_condition") stress_condition_value stress_condition
    ∷ [])

-- how many tests the run didn't come to
abbrev pub not_seen_args : TestsNotSeenSummary → Data
not_seen_args t = struct (field (codes "total_not_seen") (natural t.total_not_seen) ∷ [])

unfoldable pub run_end_args : Parts → Span → List ℕ → RunFinishedStats → Option TestsNotSeenSummary
    → Data
run_end_args version time_taken profile run_stats outstanding_not_seen = struct (
    field (codes "nextest_version") (version_value version)
    ∷ field (codes "time_taken") (duration_value time_taken)
    ∷ field (codes "profile") (string profile)
    ∷ field (codes "run_stats") (run_finished_stats_value run_stats)
    ∷ optional (codes "outstanding_not_seen") not_seen_args outstanding_not_seen
    ∷ [])

unfoldable pub sub_run_begin_args : StressProgress → Data
sub_run_begin_args progress =
    struct (field (codes "progress") (stress_progress_value progress) ∷ [])

unfoldable pub sub_run_end_args : StressProgress → Span → RunStats → Data
sub_run_end_args progress time_taken sub_stats = struct (
    field (codes "progress") (stress_progress_value progress)
    ∷ field (codes "time_taken") (duration_value time_taken)
    ∷ field (codes "sub_stats") (run_stats_value sub_stats)
    ∷ [])

-- ---- tests

unfoldable pub test_begin_args : OwnedTestInstanceId → List (List ℕ) → Data
test_begin_args test command_line =
    struct (test_fields test ++ command_line_field command_line ∷ [])

unfoldable pub retry_begin_args : OwnedTestInstanceId → RetryData → List (List ℕ) → Data
retry_begin_args test retry_data command_line =
    struct (test_fields test ++ attempt_fields retry_data ++ command_line_field command_line ∷ [])

-- `attempt` is a number here, not an object
unfoldable pub slow_test_args : OwnedTestInstanceId → Option StressIndexSummary → RetryData → Span
    → Bool → Data
slow_test_args test stress_index retry_data elapsed will_terminate = struct (
    test_fields test
    ++ slow_fields elapsed will_terminate
    ++ field (codes "attempt") (natural retry_data.attempt)
    ∷ stress_index_field stress_index
    ∷ [])

module _ {S O : Type 0} where
  -- which attempt it was, and how it ended
  abbrev pub outcome_fields : OwnedTestInstanceId → ExecuteStatus S O → List Field
  outcome_fields test s =
      test_fields test ++ ending_fields s.time_taken s.result s.is_slow
      ++ attempt_fields s.retry_data

  -- all that is said of an ended attempt, with the flaky result that counts for its test
  abbrev pub attempt_end_fields : OwnedTestInstanceId → Option StressIndexSummary → TestGroup
      → ExecuteStatus S O → Option FlakyResult → List Field
  attempt_end_fields test stress_index test_group s flaky =
      outcome_fields test s
      ++ field (codes "test_group") (test_group_value test_group)
      ∷ stress_index_field stress_index
      ∷ delay_field (codes "delay_before_start") s.delay_before_start
      ∷ given (codes "error") (error_of s.error_summary s.retry_data flaky)
      ∷ optional (codes "flaky_result") flaky_result_value flaky
      ∷ optional (codes "cpu_time") duration_value s.cpu_time
      ∷ []

  -- the end of an attempt after which another one follows
  unfoldable pub failed_attempt_args : OwnedTestInstanceId → Option StressIndexSummary → TestGroup
      → ExecuteStatus S O → Span → Data
  failed_attempt_args test stress_index test_group s delay_before_next_attempt = struct (
      attempt_end_fields test stress_index test_group s None
      ++ delay_field (codes "delay_before_next_attempt") delay_before_next_attempt
      ∷ [])

  abbrev pub last_status : ExecutionStatuses S O → Option (ExecuteStatus S O)
  last_status s = slice_get s.statuses (length s.statuses - 1)

  -- the flaky result, where it counts: several attempts were made, and the last one succeeded
  abbrev pub counted_flaky_result : ExecutionStatuses S O → ExecuteStatus S O → Option FlakyResult
  counted_flaky_result s last =
      only (nat_lt 1 (length s.statuses) && succeeded last.result) s.flaky_result

  abbrev pub last_attempt_args : OwnedTestInstanceId → Option StressIndexSummary → TestGroup
      → ExecuteStatus S O → Option FlakyResult → Data
  last_attempt_args test stress_index test_group last flaky =
      struct (attempt_end_fields test stress_index test_group last flaky)

  -- the end of a test, which is that of its last attempt
  unfoldable pub finished_test_args : OwnedTestInstanceId → Option StressIndexSummary → TestGroup
      → ExecutionStatuses S O → Option Data
  finished_test_args test stress_index test_group s =
      option_map
      (λ last. last_attempt_args test stress_index test_group last (counted_flaky_result s last))
      (last_status s)

-- ---- setup scripts

module _ {S O : Type 0} where
  unfoldable pub script_end_args : List ℕ → Option StressIndexSummary → SetupScriptExecuteStatus S O
      → Data
  script_end_args script_id stress_index s = struct (
      field (codes "script_id") (string script_id)
      ∷ ending_fields s.time_taken s.result s.is_slow
      ++ stress_index_field stress_index
      ∷ optional (codes "error") summary_error s.error_summary
      ∷ [])

unfoldable pub slow_script_args : List ℕ → Option StressIndexSummary → Span → Bool → Data
slow_script_args script_id stress_index elapsed will_terminate = struct (
    field (codes "script_id") (string script_id)
    ∷ slow_fields elapsed will_terminate
    ++ stress_index_field stress_index
    ∷ [])
