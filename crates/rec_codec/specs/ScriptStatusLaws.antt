-- The runs of setup scripts read back where their outputs do, and are writable where these are.
use Rattle.std.proofs.Common.{arith}
use Rattle.std.specs.Prelude.{◌≡◌, ℕ, suc, ◌+◌, refl, Option, Some, codes}
use Rattle.serde_json.specs.Data.{Data, string}
use Rattle.serde_json.specs.Find.{as_bool}
use Rattle.rec_events.specs.declared.script_statuses.SetupScriptExecuteStatus.{
  SetupScriptExecuteStatus,
}
use Rattle.rec_events.specs.Names.{IsText}
use Rattle.rec_forms.specs.ErrorTextLaws.{
  error_summary_back,
  error_summary_writable,
  error_summary_well_formed,
}
use Rattle.rec_forms.specs.ErrorTexts.{error_summary_value, error_summary_form, IsErrorSummary}
use Rattle.rec_forms.specs.GivesWellFormed.{GivesWellFormed}
use Rattle.rec_forms.specs.ListLaws.{maybe_back}
use Rattle.rec_forms.specs.MapLaws.{map_back, map_writable, map_well_formed}
use Rattle.rec_forms.specs.Maps.{map_value, map_form, IsMap}
use Rattle.rec_forms.specs.Members.{get_member-members_of}
use Rattle.rec_forms.specs.NumberLaws.{text_back, text_well_formed}
use Rattle.rec_forms.specs.ResultLaws.{
  execution_result_back,
  execution_result_writable,
  execution_result_well_formed,
}
use Rattle.rec_forms.specs.Results.{execution_result_form}
use Rattle.rec_forms.specs.Shape.{text_of}
use Rattle.rec_forms.specs.TimeLaws.{stamp_back, stamp_writable, duration_back}
use Rattle.rec_forms.specs.TimeLaws.{duration_writable, duration_well_formed, stamp_well_formed}
use Rattle.rec_forms.specs.Times.{duration_form, stamp_form}
use Rattle.rec_forms.specs.WellFormedLaws.{any_well_formed, object_then, required_then, maybe_then}
use Rattle.rec_forms.specs.Writable.{IsWritable, weaker, struct_writable, string_writable}
use Rattle.rec_forms.specs.Writable.{boolean_writable, optional_writable}
use Rattle.rec_codec.specs.ScriptStatus.{script_status_value, script_status_form, IsScriptStatus}
use Rattle.rec_codec.specs.Status.{description_form}
use Rattle.rec_codec.specs.StatusLaws.{
  description_back,
  description_writable,
  description_well_formed,
}

module _ {S O : Type 0} (P : O → Type 0) (output_value : O → Data) (output_form : Data → Option O)
    (back : (o : O) → P o → output_form (output_value o) ≡ Some o) where
  pub script_status_back : (s : SetupScriptExecuteStatus S O) → IsScriptStatus P s
      → script_status_form output_form (script_status_value output_value s) ≡ Some s
  unfolding script_status_form
  script_status_back s h =
      simp (
        get_member-members_of,
        description_back P output_value output_form back s.output h.output,
        execution_result_back s.result h.result,
        stamp_back _ h.start_time,
        duration_back _ h.time_taken,
        maybe_back (IsMap IsText) (map_value string) (map_form text_of)
            (map_back IsText string text_of text_back) (map_writable {n = 0} string string_writable)
            s.env_map h.env_map,
        maybe_back IsErrorSummary error_summary_value error_summary_form error_summary_back
            error_summary_writable s.error_summary h.error_summary,
      )

module _ {S O : Type 0} (P : O → Type 0) (n : ℕ) (output_value : O → Data)
    (writable : (o : O) → P o → IsWritable n (output_value o)) where
  pub script_status_writable : (s : SetupScriptExecuteStatus S O) → IsScriptStatus P s
      → IsWritable (n + 7) (script_status_value output_value s)
  script_status_writable s h =
      weaker (suc (n + 6)) (n + 7) (omega arith) (struct_writable _ refl (
        description_writable P n output_value writable s.output h.output,
        (
          weaker 4 (n + 6) (omega arith) (execution_result_writable s.result h.result),
          (
            weaker 1 (n + 6) (omega arith) (stamp_writable s.start_time h.start_time),
            (
              weaker 1 (n + 6) (omega arith) (duration_writable s.time_taken h.time_taken),
              (
                boolean_writable s.is_slow,
                (
                  optional_writable (map_value string) (λ m is.
                      weaker 1 (n + 6) (omega arith) (map_writable string string_writable m is))
                      s.env_map h.env_map,
                  (
                    optional_writable error_summary_value
                        (λ e is. weaker 1 (n + 6) (omega arith) (error_summary_writable e is))
                        s.error_summary h.error_summary,
                    tt,
                  ),
                ),
              ),
            ),
          ),
        ),
      ))

-- ---- what is read is well-formed

module _ {S O : Type 0} (P : O → Type 0) (output_form : Data → Option O)
    (gives : GivesWellFormed P output_form) where
  pub script_status_well_formed : GivesWellFormed {T = SetupScriptExecuteStatus S O}
      (IsScriptStatus P) (script_status_form output_form)
  unfolding script_status_form
  script_status_well_formed = record {
    each = λ d.
        object_then d _ (λ ms.
        required_then (description_form output_form) (codes "output") ms _
        (description_well_formed P output_form gives) (λ output output_is.
        required_then execution_result_form (codes "result") ms _ execution_result_well_formed
        (λ result result_is.
        required_then stamp_form (codes "start-time") ms _ stamp_well_formed
        (λ start_time start_time_is.
        required_then duration_form (codes "time-taken") ms _ duration_well_formed
        (λ time_taken time_taken_is.
        required_then as_bool (codes "is-slow") ms _ (any_well_formed as_bool)
        (λ is_slow is_slow_is.
        maybe_then (map_form text_of) (codes "env-map") ms _
        (map_well_formed text_of text_well_formed) (λ env_map env_map_is.
        maybe_then error_summary_form (codes "error-summary") ms _ error_summary_well_formed
        (λ error_summary error_summary_is.
        record {
          is = record {
            output = output_is;
            result = result_is;
            start_time = start_time_is;
            time_taken = time_taken_is;
            env_map = env_map_is;
            error_summary = error_summary_is;
          };
        }))))))));
  }
