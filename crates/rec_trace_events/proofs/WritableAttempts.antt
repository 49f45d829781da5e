-- The args of the ends of attempts and setup scripts are what an event's text can give back.
use Rattle.std.proofs.Common.{arith}
use Rattle.std.specs.Prelude.{ℕ, List, Option, Some, None, IfSome, option_map, refl, codes}
use Rattle.rec_events.specs.declared.groups.TestGroup.{TestGroup}
use Rattle.rec_events.specs.declared.instances.OwnedTestInstanceId.{OwnedTestInstanceId}
use Rattle.rec_events.specs.declared.instances.StressIndexSummary.{StressIndexSummary}
use Rattle.rec_events.specs.declared.results.ExecutionResultDescription.{ExecutionResultDescription}
use Rattle.rec_events.specs.declared.results.FlakyResult.{FlakyResult}
use Rattle.rec_events.specs.declared.script_statuses.SetupScriptExecuteStatus.{
  SetupScriptExecuteStatus,
}
use Rattle.rec_events.specs.declared.statuses.ExecuteStatus.{ExecuteStatus}
use Rattle.rec_events.specs.Names.{IsText}
use Rattle.rec_events.specs.Times.{Span}
use Rattle.rec_forms.specs.ResultLaws.{execution_result_writable, flaky_result_writable}
use Rattle.rec_forms.specs.Results.{execution_result_value, flaky_result_value, IsExecutionResult}
use Rattle.rec_forms.specs.Times.{IsDuration, duration_value}
use Rattle.rec_forms.specs.Writable.{IsWritable, IfWritten, EachWritten, boolean_writable}
use Rattle.rec_forms.specs.Writable.{optional_writable, string_writable, struct_writable, weaker}
use Rattle.rec_trace_events.proofs.Pairs.{left, right}
use Rattle.rec_trace_events.proofs.WritableArgs.{duration_written}
use Rattle.rec_trace_events.specs.Args.{delay_field, failed_attempt_args, last_attempt_args}
use Rattle.rec_trace_events.specs.Args.{script_end_args, stress_index_field, summary_error}
use Rattle.rec_trace_events.specs.AttemptEnds.{first_fields, last_fields, middle_fields}
use Rattle.rec_trace_events.specs.EventTexts.{IsArgs}

pub cpu_time_written : (o : Option Span) → IfSome o IsDuration
    → IfWritten 7 (option_map duration_value o)
cpu_time_written o is = optional_writable duration_value duration_written o is

pub flaky_result_written : (o : Option FlakyResult) → IfWritten 7 (option_map flaky_result_value o)
flaky_result_written None = tt
flaky_result_written (Some flaky) = weaker 0 7 (omega arith) (flaky_result_writable flaky)

pub result_written : (r : ExecutionResultDescription) → IsExecutionResult r
    → IsWritable 7 (execution_result_value r)
result_written r is = weaker 4 7 (omega arith) (execution_result_writable r is)

module _ {S O : Type 0} where
  -- the fields were written in the order of their keys
  pub failed_attempt_written : (test : OwnedTestInstanceId) (index : Option StressIndexSummary)
      (group : TestGroup) (s : ExecuteStatus S O) (delay : Span)
      → EachWritten 7 (first_fields test s)
      → IfWritten 7 (delay_field (codes "delay_before_next_attempt") delay).1
      → EachWritten 7 (middle_fields s None) → EachWritten 7 (last_fields test index group s)
      → IsArgs (failed_attempt_args test index group s delay)
  unfolding failed_attempt_args
  failed_attempt_written test index group s delay first delay_is middle last =
      let binary_id = right first in
      let cpu_time = right binary_id in
      let error = right middle in
      let flaky_result = right error in
      let is_slow = right flaky_result in
      let result = right is_slow in
      let test_group = right last in
      let test_name = right test_group in
      let time_taken = right test_name in
      let total_attempts = right time_taken in
      struct_writable _ refl (
        left binary_id,
        (
          left test_name,
          (
            left time_taken,
            (
              left result,
              (
                left is_slow,
                (
                  left first,
                  (
                    left total_attempts,
                    (
                      left test_group,
                      (
                        left last,
                        (
                          left middle,
                          (left error, (left flaky_result, (left cpu_time, (delay_is, tt)))),
                        ),
                      ),
                    ),
                  ),
                ),
              ),
            ),
          ),
        ),
      )

  pub last_attempt_written : (test : OwnedTestInstanceId) (index : Option StressIndexSummary)
      (group : TestGroup) (s : ExecuteStatus S O) (flaky : Option FlakyResult)
      → EachWritten 7 (first_fields test s) → EachWritten 7 (middle_fields s flaky)
      → EachWritten 7 (last_fields test index group s)
      → IsArgs (last_attempt_args test index group s flaky)
  last_attempt_written test index group s flaky first middle last =
      let binary_id = right first in
      let cpu_time = right binary_id in
      let error = right middle in
      let flaky_result = right error in
      let is_slow = right flaky_result in
      let result = right is_slow in
      let test_group = right last in
      let test_name = right test_group in
      let time_taken = right test_name in
      let total_attempts = right time_taken in
      struct_writable _ refl (
        left binary_id,
        (
          left test_name,
          (
            left time_taken,
            (
              left result,
              (
                left is_slow,
                (
                  left first,
                  (
                    left total_attempts,
                    (
                      left test_group,
                      (
                        left last,
                        (left middle, (left error, (left flaky_result, (left cpu_time, tt)))),
                      ),
                    ),
                  ),
                ),
              ),
            ),
          ),
        ),
      )

  pub script_end_written : (script_id : List ℕ) (index : Option StressIndexSummary)
      (s : SetupScriptExecuteStatus S O)
      → IsText script_id → IsDuration s.time_taken → IsExecutionResult s.result
      → IfWritten 7 (stress_index_field index).1
      → IfWritten 7 (option_map summary_error s.error_summary)
      → IsArgs (script_end_args script_id index s)
  unfolding script_end_args
  script_end_written script_id index s is time_is result_is index_is error_is =
      struct_writable _ refl (
        string_writable script_id is,
        (
          duration_written s.time_taken time_is,
          (
            result_written s.result result_is,
            (boolean_writable s.is_slow, (index_is, (error_is, tt))),
          ),
        ),
      )
