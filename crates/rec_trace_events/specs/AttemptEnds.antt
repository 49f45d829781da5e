-- The args of the end of an attempt, in the order of their keys.
use Rattle.std.specs.Option.{unwrap_or}
use Rattle.std.specs.Prelude.{List, [], ◌∷◌, Option, codes}
use Rattle.serde_json.specs.Data.{boolean, string}
use Rattle.rec_events.specs.declared.groups.TestGroup.TheVariants.{Global}
use Rattle.rec_events.specs.declared.groups.TestGroup.{TestGroup}
use Rattle.rec_events.specs.declared.instances.OwnedTestInstanceId.{OwnedTestInstanceId}
use Rattle.rec_events.specs.declared.instances.StressIndexSummary.{StressIndexSummary}
use Rattle.rec_events.specs.declared.results.FlakyResult.{FlakyResult}
use Rattle.rec_events.specs.declared.statuses.ExecuteStatus.{ExecuteStatus}
use Rattle.rec_forms.specs.Groups.{test_group_value}
use Rattle.rec_forms.specs.Results.{execution_result_value, flaky_result_value}
use Rattle.rec_forms.specs.Shape.{Field, field, natural, optional}
use Rattle.rec_forms.specs.Times.{duration_value}
use Rattle.rec_trace_events.specs.Args.{delay_field, error_of, given, stress_index_field}

-- the group of an attempt, which is the global one where none is given
abbrev pub group_or_global : Option TestGroup → TestGroup
group_or_global group = unwrap_or group Global

module _ {S O : Type 0} where
  -- the keys from `attempt` to `cpu_time`
  abbrev pub first_fields : OwnedTestInstanceId → ExecuteStatus S O → List Field
  first_fields test s =
      field (codes "attempt") (natural s.retry_data.attempt)
      ∷ field (codes "binary_id") (string test.binary_id)
      ∷ optional (codes "cpu_time") duration_value s.cpu_time
      ∷ []

  -- the keys from `delay_before_start` to `result`
  abbrev pub middle_fields : ExecuteStatus S O → Option FlakyResult → List Field
  middle_fields s flaky =
      delay_field (codes "delay_before_start") s.delay_before_start
      ∷ given (codes "error") (error_of s.error_summary s.retry_data flaky)
      ∷ optional (codes "flaky_result") flaky_result_value flaky
      ∷ field (codes "is_slow") (boolean s.is_slow)
      ∷ field (codes "result") (execution_result_value s.result)
      ∷ []

  -- the keys from `stress_index` to `total_attempts`
  abbrev pub last_fields : OwnedTestInstanceId → Option StressIndexSummary → TestGroup
      → ExecuteStatus S O → List Field
  last_fields test stress_index test_group s =
      stress_index_field stress_index
      ∷ field (codes "test_group") (test_group_value test_group)
      ∷ field (codes "test_name") (string test.test_name)
      ∷ field (codes "time_taken") (duration_value s.time_taken)
      ∷ field (codes "total_attempts") (natural s.retry_data.total_attempts)
      ∷ []
