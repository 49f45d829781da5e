-- The values and forms of the runs of setup scripts, over those of an output.
use Rattle.std.specs.Prelude.{IfSome, Bool, [], ◌∷◌, Option, Some, codes}
use Rattle.serde_json.specs.Data.{Data, string, boolean}
use Rattle.serde_json.specs.Find.{as_object, as_bool}
use Rattle.rec_events.specs.declared.script_statuses.SetupScriptExecuteStatus.{
  SetupScriptExecuteStatus,
}
use Rattle.rec_events.specs.Names.{IsText}
use Rattle.rec_forms.specs.ErrorTexts.{error_summary_value, error_summary_form, IsErrorSummary}
use Rattle.rec_forms.specs.Maps.{map_value, map_form, IsMap}
use Rattle.rec_forms.specs.Results.{
  execution_result_value,
  execution_result_form,
  IsExecutionResult,
}
use Rattle.rec_forms.specs.Shape.{◌>>=◌, field, optional, struct, required, maybe, text_of}
use Rattle.rec_forms.specs.Times.{stamp_value, stamp_form, IsStamp}
use Rattle.rec_forms.specs.Times.{duration_value, duration_form, IsDuration}
use Rattle.rec_codec.specs.Status.{description_value, description_form}
use Rattle.rec_codec.specs.Status.{description_loaded, IsDescription}

module _ {S O : Type 0} (output_value : O → Data) where
  abbrev pub script_status_value : SetupScriptExecuteStatus S O → Data
  script_status_value s = struct (
      field (codes "output") (description_value output_value s.output)
      ∷ field (codes "result") (execution_result_value s.result)
      ∷ field (codes "start-time") (stamp_value s.start_time)
      ∷ field (codes "time-taken") (duration_value s.time_taken)
      ∷ field (codes "is-slow") (boolean s.is_slow)
      ∷ optional (codes "env-map") (map_value string) s.env_map
      ∷ optional (codes "error-summary") error_summary_value s.error_summary
      ∷ [])

module _ {S O : Type 0} (output_form : Data → Option O) where
  unfoldable pub script_status_form : Data → Option (SetupScriptExecuteStatus S O)
  script_status_form d = do
    ms ← as_object d
    output ← required (description_form output_form) (codes "output") ms
    result ← required execution_result_form (codes "result") ms
    start_time ← required stamp_form (codes "start-time") ms
    time_taken ← required duration_form (codes "time-taken") ms
    is_slow ← required as_bool (codes "is-slow") ms
    env_map ← maybe (map_form text_of) (codes "env-map") ms
    error_summary ← maybe error_summary_form (codes "error-summary") ms
    Some (record {
      output = output;
      result = result;
      start_time = start_time;
      time_taken = time_taken;
      is_slow = is_slow;
      env_map = env_map;
      error_summary = error_summary;
    })

module _ {S O : Type 0} (loaded : O → Bool) where
  abbrev pub script_status_loaded : SetupScriptExecuteStatus S O → Bool
  script_status_loaded s = description_loaded loaded s.output

module _ {S O : Type 0} (P : O → Type 0) where
  pub record IsScriptStatus (s : SetupScriptExecuteStatus S O) : Type 0 where
    pub output : IsDescription P s.output
    pub result : IsExecutionResult s.result
    pub start_time : IsStamp s.start_time
    pub time_taken : IsDuration s.time_taken
    pub env_map : IfSome s.env_map (IsMap IsText)
    pub error_summary : IfSome s.error_summary IsErrorSummary
