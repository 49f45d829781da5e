-- The values and forms of attempts, over those of an output.
use Rattle.std.specs.List.{AllByRecursion}
use Rattle.std.specs.Prelude.{◌<◌, length, IfSome, Bool, true, List, []}
use Rattle.std.specs.Prelude.{◌∷◌, ◌++◌, Option, Some, option_map, codes}
use Rattle.serde_json.specs.Data.{Data, Members, string, boolean}
use Rattle.serde_json.specs.Find.{as_object, as_bool}
use Rattle.rec_events.specs.declared.outputs.ChildExecutionOutputDescription.TheVariants.{
  Output,
  StartError,
}
use Rattle.rec_events.specs.declared.outputs.ChildExecutionOutputDescription.{
  ChildExecutionOutputDescription,
}
use Rattle.rec_events.specs.declared.statuses.ExecuteStatus.{ExecuteStatus}
use Rattle.rec_events.specs.declared.statuses.ExecutionStatuses.{ExecutionStatuses}
use Rattle.rec_events.specs.Names.{IsText, AreTexts}
use Rattle.rec_forms.specs.ErrorTexts.{error_summary_value, error_summary_form, IsErrorSummary}
use Rattle.rec_forms.specs.ErrorTexts.{error_slice_value, error_slice_form, IsErrorSlice}
use Rattle.rec_forms.specs.Instances.{retry_data_value, retry_data_form, IsRetryData}
use Rattle.rec_forms.specs.Lists.{list_value, list_form, some_form}
use Rattle.rec_forms.specs.Results.{flaky_result_value, flaky_result_form, execution_result_value}
use Rattle.rec_forms.specs.Results.{execution_result_form, IsExecutionResult}
use Rattle.rec_forms.specs.Shape.{◌>>=◌, Field, field, optional, struct}
use Rattle.rec_forms.specs.Shape.{required, maybe, text_of, tagged, variant}
use Rattle.rec_forms.specs.Times.{stamp_value, stamp_form, IsStamp}
use Rattle.rec_forms.specs.Times.{duration_value, duration_form, IsDuration}
use Rattle.rec_codec.specs.declared.status.AfterOutput.{AfterOutput}
use Rattle.rec_codec.specs.declared.status.BeforeOutput.{BeforeOutput}
use Rattle.rec_codec.specs.Writes.{every}

-- ---- what stands before the output of an attempt, in the order of the keys

abbrev pub before_output_fields : BeforeOutput → List Field
before_output_fields b =
    optional (codes "cpu-time") duration_value b.cpu_time
    ∷ field (codes "delay-before-start") (duration_value b.delay_before_start)
    ∷ optional (codes "error-summary") error_summary_value b.error_summary
    ∷ field (codes "is-slow") (boolean b.is_slow)
    ∷ []

unfoldable pub before_output_form : Members → Option BeforeOutput
before_output_form ms = do
  cpu_time ← maybe duration_form (codes "cpu-time") ms
  delay_before_start ← required duration_form (codes "delay-before-start") ms
  is_slow ← required as_bool (codes "is-slow") ms
  error_summary ← maybe error_summary_form (codes "error-summary") ms
  Some (record {
    cpu_time = cpu_time;
    delay_before_start = delay_before_start;
    error_summary = error_summary;
    is_slow = is_slow;
  })

pub record IsBeforeOutput (b : BeforeOutput) : Type 0 where
  pub cpu_time : IfSome b.cpu_time IsDuration
  pub delay_before_start : IsDuration b.delay_before_start
  pub error_summary : IfSome b.error_summary IsErrorSummary

-- ---- what stands after it

abbrev pub after_output_fields : AfterOutput → List Field
after_output_fields a =
    optional (codes "output-error-slice") error_slice_value a.output_error_slice
    ∷ field (codes "result") (execution_result_value a.result)
    ∷ field (codes "retry-data") (retry_data_value a.retry_data)
    ∷ field (codes "start-time") (stamp_value a.start_time)
    ∷ field (codes "time-taken") (duration_value a.time_taken)
    ∷ []

unfoldable pub after_output_form : Members → Option AfterOutput
after_output_form ms = do
  retry_data ← required retry_data_form (codes "retry-data") ms
  start_time ← required stamp_form (codes "start-time") ms
  time_taken ← required duration_form (codes "time-taken") ms
  output_error_slice ← maybe error_slice_form (codes "output-error-slice") ms
  result ← required execution_result_form (codes "result") ms
  Some (record {
    output_error_slice = output_error_slice;
    result = result;
    retry_data = retry_data;
    start_time = start_time;
    time_taken = time_taken;
  })

pub record IsAfterOutput (a : AfterOutput) : Type 0 where
  pub output_error_slice : IfSome a.output_error_slice IsErrorSlice
  pub result : IsExecutionResult a.result
  pub retry_data : IsRetryData a.retry_data
  pub start_time : IsStamp a.start_time
  pub time_taken : IsDuration a.time_taken

module _ {S O : Type 0} where
  abbrev pub before_output : ExecuteStatus S O → BeforeOutput
  before_output s = record {
    cpu_time = s.cpu_time;
    delay_before_start = s.delay_before_start;
    error_summary = s.error_summary;
    is_slow = s.is_slow;
  }

  abbrev pub after_output : ExecuteStatus S O → AfterOutput
  after_output s = record {
    output_error_slice = s.output_error_slice;
    result = s.result;
    retry_data = s.retry_data;
    start_time = s.start_time;
    time_taken = s.time_taken;
  }

-- ---- values

module _ {S O : Type 0} (output_value : O → Data) where
  abbrev pub description_value : ChildExecutionOutputDescription S O → Data
  description_value (Output result output errors) =
      tagged (codes "output") (struct (
      optional (codes "result") execution_result_value result
      ∷ field (codes "output") (output_value output)
      ∷ optional (codes "errors") (list_value string) errors
      ∷ []))
  description_value (StartError message) = tagged (codes "start-error") (string message)

  abbrev pub status_value : ExecuteStatus S O → Data
  status_value s =
      struct (before_output_fields (before_output s)
      ++ field (codes "output") (description_value s.output) ∷ after_output_fields (after_output s))

  -- as stores of version 3.0 have it
  abbrev pub status_value_3_0 : ExecuteStatus S O → Data
  status_value_3_0 s = struct (
      field (codes "retry-data") (retry_data_value s.retry_data)
      ∷ field (codes "output") (description_value s.output)
      ∷ field (codes "result") (execution_result_value s.result)
      ∷ field (codes "start-time") (stamp_value s.start_time)
      ∷ field (codes "time-taken") (duration_value s.time_taken)
      ∷ field (codes "is-slow") (boolean s.is_slow)
      ∷ field (codes "delay-before-start") (duration_value s.delay_before_start)
      ∷ optional (codes "error-summary") error_summary_value s.error_summary
      ∷ optional (codes "output-error-slice") error_slice_value s.output_error_slice
      ∷ [])

  abbrev pub statuses_value : ExecutionStatuses S O → Data
  statuses_value s =
      struct (field (codes "statuses") (list_value status_value s.statuses)
      ∷ field (codes "flaky-result") (flaky_result_value s.flaky_result) ∷ [])

-- ---- forms

module _ {S O : Type 0} (output_form : Data → Option O) where
  unfoldable pub output_case_form : Data → Option (ChildExecutionOutputDescription S O)
  output_case_form d = do
    ms ← as_object d
    result ← maybe execution_result_form (codes "result") ms
    output ← required output_form (codes "output") ms
    errors ← maybe (list_form text_of) (codes "errors") ms
    Some (Output result output errors)

  abbrev pub start_error_form : Data → Option (ChildExecutionOutputDescription S O)
  start_error_form d = option_map StartError (text_of d)

  unfoldable pub description_form : Data → Option (ChildExecutionOutputDescription S O)
  description_form =
      variant [] ((codes "output", output_case_form) ∷ (codes "start-error", start_error_form) ∷ [])

  unfoldable pub status_form : Data → Option (ExecuteStatus S O)
  status_form d = do
    ms ← as_object d
    before ← before_output_form ms
    after ← after_output_form ms
    output ← required description_form (codes "output") ms
    Some (record {
      retry_data = after.retry_data;
      output = output;
      result = after.result;
      start_time = after.start_time;
      time_taken = after.time_taken;
      is_slow = before.is_slow;
      delay_before_start = before.delay_before_start;
      error_summary = before.error_summary;
      output_error_slice = after.output_error_slice;
      cpu_time = before.cpu_time;
    })

  unfoldable pub attempts_form : Data → Option (List (ExecuteStatus S O))
  attempts_form = some_form status_form

  unfoldable pub statuses_form : Data → Option (ExecutionStatuses S O)
  statuses_form d = do
    ms ← as_object d
    flaky_result ← required flaky_result_form (codes "flaky-result") ms
    statuses ← required attempts_form (codes "statuses") ms
    Some (record { statuses = statuses; flaky_result = flaky_result })

-- ---- whether the outputs are there

module _ {S O : Type 0} (loaded : O → Bool) where
  abbrev pub description_loaded : ChildExecutionOutputDescription S O → Bool
  description_loaded (Output result output errors) = loaded output
  description_loaded (StartError message) = true

  abbrev pub status_loaded : ExecuteStatus S O → Bool
  status_loaded s = description_loaded s.output

  abbrev pub statuses_loaded : ExecutionStatuses S O → Bool
  statuses_loaded s = every status_loaded s.statuses

-- ---- what is well-formed

module _ {S O : Type 0} (P : O → Type 0) where
  abbrev pub IsDescription : ChildExecutionOutputDescription S O → Type 0
  IsDescription (Output result output errors) =
      IfSome result IsExecutionResult × P output × IfSome errors AreTexts
  IsDescription (StartError message) = IsText message

  pub record IsStatus (s : ExecuteStatus S O) : Type 0 where
    pub before : IsBeforeOutput (before_output s)
    pub output : IsDescription s.output
    pub after : IsAfterOutput (after_output s)

  pub record AreStatuses (s : ExecutionStatuses S O) : Type 0 where
    pub statuses : AllByRecursion IsStatus s.statuses
    pub some : 0 < length s.statuses
