-- The args of an event are what an event's text can give back.
use Rattle.std.proofs.Common.{arith}
use Rattle.std.specs.List.Sorted.{IsStrictlySortedBy}
use Rattle.std.specs.List.{AllByRecursion}
use Rattle.std.specs.Prelude.{◌<◌, ◌^◌, ℕ, List, [], Bool, Option, Some}
use Rattle.std.specs.Prelude.{None, IfSome, option_map, refl, codes}
use Rattle.semver.specs.Parse.{Parts}
use Rattle.serde_json.specs.Data.{string}
use Rattle.rec_events.specs.declared.instances.OwnedTestInstanceId.{OwnedTestInstanceId}
use Rattle.rec_events.specs.declared.instances.RetryData.{RetryData}
use Rattle.rec_events.specs.declared.instances.StressIndexSummary.{StressIndexSummary}
use Rattle.rec_events.specs.declared.reporting.CancelReason.{CancelReason}
use Rattle.rec_events.specs.declared.run_ends.RunFinishedStats.{RunFinishedStats}
use Rattle.rec_events.specs.declared.run_ends.TestsNotSeenSummary.{TestsNotSeenSummary}
use Rattle.rec_events.specs.declared.stats.RunStats.{RunStats}
use Rattle.rec_events.specs.declared.stress.StressConditionSummary.{StressConditionSummary}
use Rattle.rec_events.specs.declared.stress.StressProgress.{StressProgress}
use Rattle.rec_events.specs.Names.{IsText}
use Rattle.rec_events.specs.Times.{Span}
use Rattle.rec_events.specs.Versions.{IsVersion}
use Rattle.rec_forms.specs.IdLaws.{uuid_writable, version_writable}
use Rattle.rec_forms.specs.Ids.{IsUuid}
use Rattle.rec_forms.specs.Lists.{list_value}
use Rattle.rec_forms.specs.NumberLaws.{u32_writable}
use Rattle.rec_forms.specs.Reporting.{cancel_reason_value}
use Rattle.rec_forms.specs.ReportingLaws.{cancel_reason_writable}
use Rattle.rec_forms.specs.RunEndLaws.{run_finished_stats_writable}
use Rattle.rec_forms.specs.RunEnds.{IsRunFinishedStats}
use Rattle.rec_forms.specs.Shape.{members_of, struct}
use Rattle.rec_forms.specs.Stats.{IsRunStats}
use Rattle.rec_forms.specs.StatsLaws.{run_stats_writable}
use Rattle.rec_forms.specs.Stress.{IsStressCondition, IsStressProgress, stress_condition_value}
use Rattle.rec_forms.specs.StressLaws.{stress_condition_writable, stress_progress_writable}
use Rattle.rec_forms.specs.TextLaws.{IsText-are_ascii}
use Rattle.rec_forms.specs.TimeLaws.{duration_writable}
use Rattle.rec_forms.specs.Times.{IsDuration, duration_value}
use Rattle.rec_forms.specs.Writable.{IsWritable, IfWritten, boolean_writable}
use Rattle.rec_forms.specs.Writable.{list_writable, natural_writable, optional_writable}
use Rattle.rec_forms.specs.Writable.{string_writable, struct_writable, weaker}
use Rattle.rec_trace_events.specs.Args.{command_line_field, error_value, not_seen_args}
use Rattle.rec_trace_events.specs.Args.{retry_begin_args, run_begin_args, run_end_args}
use Rattle.rec_trace_events.specs.Args.{slow_script_args, slow_test_args, stress_index_args}
use Rattle.rec_trace_events.specs.Args.{stress_index_field, sub_run_begin_args}
use Rattle.rec_trace_events.specs.Args.{sub_run_end_args, test_begin_args}
use Rattle.rec_trace_events.specs.declared.counts.RunningCounts.{RunningCounts}
use Rattle.rec_trace_events.specs.declared.counts.TestCounts.{TestCounts}
use Rattle.rec_trace_events.specs.declared.instants.RunMark.{RunMark}
use Rattle.rec_trace_events.specs.EventTexts.{IsArgs}
use Rattle.rec_trace_events.specs.TraceEvents.{mark_args, mark_reason, name_args}
use Rattle.rec_trace_events.specs.TraceEvents.{place_args, results_args, running_args}

-- ---- parts

pub duration_written : (d : Span) → IsDuration d → IsWritable 7 (duration_value d)
duration_written d is = weaker 1 7 (omega arith) (duration_writable d is)

pub words_written : (ws : List (List ℕ)) → AllByRecursion IsText ws
    → IsWritable 7 (list_value string ws)
words_written ws are =
    weaker 1 7 (omega arith) (list_writable string (λ w is. string_writable {n = 0} w is) ws are)

index_of_none : (current : ℕ) → current < 2 ^ 32
    → IsWritable 1 (stress_index_args (record { current = current; total = None }))
unfolding members_of IsStrictlySortedBy
index_of_none current h = record {
  some = λ e. cc e;
  canonical = (
    (IsText-are_ascii (codes "current") refl, (IsText-are_ascii (codes "total") refl, tt)),
    ((refl, tt), (tt, tt)),
    (omega (arith, h), (tt, tt)),
  );
  whole = refl;
  shallow = omega arith;
}

-- of how many runs it is may be null
index_of : (current : ℕ) (total : Option ℕ) → current < 2 ^ 32 → IfSome total (λ n. n < 2 ^ 64)
    → IsWritable 1 (stress_index_args (record { current = current; total = total }))
index_of current None h total_is = index_of_none current h
index_of current (Some n) h total_is =
    struct_writable _ refl (u32_writable current h, (natural_writable n total_is, tt))

pub index_written : (s : StressIndexSummary) → s.current < 2 ^ 32 → IfSome s.total (λ n. n < 2 ^ 64)
    → IsWritable 1 (stress_index_args s)
index_written s h total_is = index_of s.current s.total h total_is

pub error_written : (short_message description : List ℕ) → IsText short_message → IsText description
    → IsWritable 7 (error_value short_message description)
error_written short_message description short_is is =
    struct_writable _ refl
    (string_writable short_message short_is, (string_writable description is, tt))

pub not_seen_written : (t : TestsNotSeenSummary) → t.total_not_seen < 2 ^ 64
    → IsWritable 7 (not_seen_args t)
not_seen_written t h = struct_writable _ refl (natural_writable t.total_not_seen h, tt)

-- ---- the run and the runs of a stress run

pub no_args_written : IsArgs (struct [])
no_args_written = struct_writable _ refl tt

condition_written : (c : StressConditionSummary) → IsStressCondition c
    → IsWritable 7 (stress_condition_value c)
condition_written c is = weaker 2 7 (omega arith) (stress_condition_writable c is)

pub run_begin_written : (version : Parts) (run_id profile : List ℕ) (cli_args : List (List ℕ))
    (condition : Option StressConditionSummary)
    → IsVersion version → IsUuid run_id → IsText profile → AllByRecursion IsText cli_args
    → IfSome condition IsStressCondition
    → IsArgs (run_begin_args version run_id profile cli_args condition)
unfolding run_begin_args
run_begin_written version run_id profile cli_args condition version_is run_id_is profile_is
    cli_args_are condition_is =
    struct_writable _ refl (
      weaker 0 7 (omega arith) (version_writable version version_is),
      (
        weaker 0 7 (omega arith) (uuid_writable run_id run_id_is),
        (
          string_writable profile profile_is,
          (
            words_written cli_args cli_args_are,
            (optional_writable stress_condition_value condition_written condition condition_is, tt),
          ),
        ),
      ),
    )

pub run_end_written : (version : Parts) (time_taken : Span) (profile : List ℕ)
    (stats : RunFinishedStats) (not_seen : Option TestsNotSeenSummary)
    → IsVersion version → IsDuration time_taken → IsText profile → IsRunFinishedStats stats
    → IfWritten 7 (option_map not_seen_args not_seen)
    → IsArgs (run_end_args version time_taken profile stats not_seen)
unfolding run_end_args
run_end_written version time_taken profile stats not_seen version_is time_is profile_is stats_are
    not_seen_is =
    struct_writable _ refl (
      weaker 0 7 (omega arith) (version_writable version version_is),
      (
        duration_written time_taken time_is,
        (
          string_writable profile profile_is,
          (
            weaker 3 7 (omega arith) (run_finished_stats_writable stats stats_are),
            (not_seen_is, tt),
          ),
        ),
      ),
    )

pub sub_run_begin_written : (progress : StressProgress) → IsStressProgress progress
    → IsArgs (sub_run_begin_args progress)
unfolding sub_run_begin_args
sub_run_begin_written progress is =
    struct_writable _ refl (weaker 3 7 (omega arith) (stress_progress_writable progress is), tt)

pub sub_run_end_written : (progress : StressProgress) (time_taken : Span) (stats : RunStats)
    → IsStressProgress progress → IsDuration time_taken → IsRunStats stats
    → IsArgs (sub_run_end_args progress time_taken stats)
unfolding sub_run_end_args
sub_run_end_written progress time_taken stats is time_is stats_are =
    struct_writable _ refl (
      weaker 3 7 (omega arith) (stress_progress_writable progress is),
      (
        duration_written time_taken time_is,
        (weaker 1 7 (omega arith) (run_stats_writable stats stats_are), tt),
      ),
    )

-- ---- tests and setup scripts

pub test_begin_written : (test : OwnedTestInstanceId) (words : List (List ℕ))
    → IsText test.binary_id → IsText test.test_name → IfWritten 7 (command_line_field words).1
    → IsArgs (test_begin_args test words)
unfolding test_begin_args
test_begin_written test words binary_is name_is words_are =
    struct_writable _ refl (
      string_writable test.binary_id binary_is,
      (string_writable test.test_name name_is, (words_are, tt)),
    )

pub retry_begin_written : (test : OwnedTestInstanceId) (r : RetryData) (words : List (List ℕ))
    → IsText test.binary_id → IsText test.test_name → r.attempt < 2 ^ 32 → r.total_attempts < 2 ^ 32
    → IfWritten 7 (command_line_field words).1
    → IsArgs (retry_begin_args test r words)
unfolding retry_begin_args
retry_begin_written test r words binary_is name_is attempt_is total_is words_are =
    struct_writable _ refl (
      string_writable test.binary_id binary_is,
      (
        string_writable test.test_name name_is,
        (
          u32_writable r.attempt attempt_is,
          (u32_writable r.total_attempts total_is, (words_are, tt)),
        ),
      ),
    )

pub slow_test_written : (test : OwnedTestInstanceId) (index : Option StressIndexSummary)
    (r : RetryData) (elapsed : Span) (will_terminate : Bool)
    → IsText test.binary_id → IsText test.test_name → r.attempt < 2 ^ 32 → IsDuration elapsed
    → IfWritten 7 (stress_index_field index).1
    → IsArgs (slow_test_args test index r elapsed will_terminate)
unfolding slow_test_args
slow_test_written test index r elapsed will_terminate binary_is name_is attempt_is elapsed_is
    index_is =
    struct_writable _ refl (
      string_writable test.binary_id binary_is,
      (
        string_writable test.test_name name_is,
        (
          duration_written elapsed elapsed_is,
          (boolean_writable will_terminate, (u32_writable r.attempt attempt_is, (index_is, tt))),
        ),
      ),
    )

pub slow_script_written : (script_id : List ℕ) (index : Option StressIndexSummary) (elapsed : Span)
    (will_terminate : Bool)
    → IsText script_id → IsDuration elapsed → IfWritten 7 (stress_index_field index).1
    → IsArgs (slow_script_args script_id index elapsed will_terminate)
unfolding slow_script_args
slow_script_written script_id index elapsed will_terminate is elapsed_is index_is =
    struct_writable _ refl (
      string_writable script_id is,
      (duration_written elapsed elapsed_is, (boolean_writable will_terminate, (index_is, tt))),
    )

-- ---- counters, marks and metadata

pub running_written : (running : RunningCounts) → running.tests < 2 ^ 64 → running.scripts < 2 ^ 64
    → IsArgs (running_args running)
running_written running tests_are scripts_are =
    struct_writable _ refl
    (natural_writable running.tests tests_are, (natural_writable running.scripts scripts_are, tt))

pub results_written : (counts : TestCounts) → counts.passed < 2 ^ 64 → counts.flaky < 2 ^ 64
    → counts.failed < 2 ^ 64 → IsArgs (results_args counts)
results_written counts passed_are flaky_are failed_are =
    struct_writable _ refl (
      natural_writable counts.passed passed_are,
      (natural_writable counts.flaky flaky_are, (natural_writable counts.failed failed_are, tt)),
    )

reason_written : (o : Option CancelReason) → IfWritten 7 (option_map cancel_reason_value o)
reason_written None = tt
reason_written (Some reason) = weaker 0 7 (omega arith) (cancel_reason_writable reason)

pub mark_written : (mark : RunMark) (running : RunningCounts) → running.tests < 2 ^ 64
    → running.scripts < 2 ^ 64 → IsArgs (mark_args mark running)
unfolding mark_args
mark_written mark running tests_are scripts_are =
    struct_writable _ refl (
      natural_writable running.tests tests_are,
      (natural_writable running.scripts scripts_are, (reason_written (mark_reason mark), tt)),
    )

pub name_written : (name : List ℕ) → IsText name → IsArgs (name_args name)
name_written name is = struct_writable _ refl (string_writable name is, tt)

pub place_written : (place : ℕ) → place < 2 ^ 64 → IsArgs (place_args place)
place_written place is = struct_writable _ refl (natural_writable place is, tt)
