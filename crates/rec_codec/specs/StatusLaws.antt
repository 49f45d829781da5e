-- Attempts read back where their outputs do, and are writable where these are.
use Rattle.std.proofs.Common.{arith}
use Rattle.std.proofs.lemmas.Bool.Decides.{nat_tests}
use Rattle.std.specs.List.{AllByRecursion}
use Rattle.std.specs.Prelude.{◌≡◌, ℕ, suc, ◌+◌, ◌<◌, length, nat_lt, true}
use Rattle.std.specs.Prelude.{refl, Option, Some, codes, List, [], ◌∷◌}
use Rattle.serde_json.specs.Data.{Data, string, Members}
use Rattle.serde_json.specs.Find.{as_bool}
use Rattle.rec_events.specs.declared.outputs.ChildExecutionOutputDescription.TheVariants.{
  Output,
  StartError,
}
use Rattle.rec_events.specs.declared.outputs.ChildExecutionOutputDescription.{
  ChildExecutionOutputDescription,
}
use Rattle.rec_events.specs.declared.statuses.ExecuteStatus.{ExecuteStatus}
use Rattle.rec_events.specs.declared.statuses.ExecutionStatuses.{ExecutionStatuses}
use Rattle.rec_events.specs.Names.{IsText, AreTexts}
use Rattle.rec_forms.specs.ErrorTextLaws.{error_summary_back, error_summary_writable}
use Rattle.rec_forms.specs.ErrorTextLaws.{error_slice_back, error_slice_writable}
use Rattle.rec_forms.specs.ErrorTextLaws.{error_slice_well_formed, error_summary_well_formed}
use Rattle.rec_forms.specs.ErrorTexts.{error_summary_value, error_summary_form, IsErrorSummary}
use Rattle.rec_forms.specs.ErrorTexts.{error_slice_value, error_slice_form, IsErrorSlice}
use Rattle.rec_forms.specs.GivesWellFormed.{Holds, GivesWellFormed}
use Rattle.rec_forms.specs.InstanceLaws.{
  retry_data_back,
  retry_data_writable,
  retry_data_well_formed,
}
use Rattle.rec_forms.specs.Instances.{retry_data_form}
use Rattle.rec_forms.specs.ListLaws.{list_back, maybe_back}
use Rattle.rec_forms.specs.Lists.{list_value, list_form, some_form}
use Rattle.rec_forms.specs.Members.{get_member-members_of}
use Rattle.rec_forms.specs.NumberLaws.{text_back, below_limit, text_well_formed}
use Rattle.rec_forms.specs.ResultLaws.{
  flaky_result_back,
  flaky_result_writable,
  execution_result_back,
  execution_result_writable,
  execution_result_well_formed,
}
use Rattle.rec_forms.specs.Results.{execution_result_value, execution_result_form}
use Rattle.rec_forms.specs.Results.{IsExecutionResult, flaky_result_form}
use Rattle.rec_forms.specs.Shape.{text_of, only}
use Rattle.rec_forms.specs.TimeLaws.{stamp_back, stamp_writable, duration_back}
use Rattle.rec_forms.specs.TimeLaws.{duration_writable, duration_well_formed, stamp_well_formed}
use Rattle.rec_forms.specs.Times.{duration_form, duration_value, stamp_form, IsDuration}
use Rattle.rec_forms.specs.WellFormedLaws.{any_well_formed, and_then_holds, map_holds}
use Rattle.rec_forms.specs.WellFormedLaws.{only_holds, object_then, required_then, maybe_then}
use Rattle.rec_forms.specs.WellFormedLaws.{then_holds, variant_well_formed, list_well_formed}
use Rattle.rec_forms.specs.Writable.{IsWritable, weaker, struct_writable}
use Rattle.rec_forms.specs.Writable.{tagged_writable, string_writable, boolean_writable}
use Rattle.rec_forms.specs.Writable.{list_writable, optional_writable}
use Rattle.rec_codec.specs.Status.{description_value, description_form, output_case_form}
use Rattle.rec_codec.specs.Status.{IsDescription, before_output_form, IsBeforeOutput}
use Rattle.rec_codec.specs.Status.{after_output_form, IsAfterOutput, status_value}
use Rattle.rec_codec.specs.Status.{status_form, IsStatus, statuses_value, attempts_form}
use Rattle.rec_codec.specs.Status.{statuses_form, AreStatuses, start_error_form}

not_empty : (n : ℕ) → 0 < n → nat_lt 0 n ≡ true
not_empty n h = grind (arith, nat_tests)

module _ {S O : Type 0} (P : O → Type 0) (output_value : O → Data) (output_form : Data → Option O)
    (back : (o : O) → P o → output_form (output_value o) ≡ Some o) where
  pub description_back : (d : ChildExecutionOutputDescription S O) → IsDescription P d
      → description_form output_form (description_value output_value d) ≡ Some d
  unfolding description_form output_case_form
  description_back (Output result output errors) h =
      simp (
        get_member-members_of,
        maybe_back IsExecutionResult execution_result_value execution_result_form
            execution_result_back execution_result_writable result h.0,
        back output h.1,
        maybe_back AreTexts (list_value string) (list_form text_of)
            (list_back IsText string text_of text_back)
            (list_writable {n = 0} string string_writable) errors h.2,
      )
  description_back (StartError message) h = rw (text_back message h)

  pub status_back : (s : ExecuteStatus S O) → IsStatus P s
      → status_form output_form (status_value output_value s) ≡ Some s
  unfolding status_form before_output_form after_output_form
  status_back s h =
      simp (
        get_member-members_of,
        maybe_back IsDuration duration_value duration_form duration_back duration_writable
            s.cpu_time h.before.cpu_time,
        duration_back _ h.before.delay_before_start,
        maybe_back IsErrorSummary error_summary_value error_summary_form error_summary_back
            error_summary_writable s.error_summary h.before.error_summary,
        description_back s.output h.output,
        maybe_back IsErrorSlice error_slice_value error_slice_form error_slice_back
            error_slice_writable s.output_error_slice h.after.output_error_slice,
        execution_result_back s.result h.after.result,
        retry_data_back _ h.after.retry_data,
        stamp_back _ h.after.start_time,
        duration_back _ h.after.time_taken,
      )

  pub statuses_back : (s : ExecutionStatuses S O) → AreStatuses P s
      → statuses_form output_form (statuses_value output_value s) ≡ Some s
  unfolding statuses_form attempts_form
  statuses_back s h =
      simp (
        get_member-members_of,
        list_back (IsStatus P) (status_value output_value) (status_form output_form)
            status_back s.statuses h.statuses,
        not_empty (length s.statuses) h.some,
        flaky_result_back s.flaky_result,
      )

module _ {S O : Type 0} (P : O → Type 0) (n : ℕ) (output_value : O → Data)
    (writable : (o : O) → P o → IsWritable n (output_value o)) where
  pub description_writable : (d : ChildExecutionOutputDescription S O) → IsDescription P d
      → IsWritable (n + 6) (description_value output_value d)
  description_writable (Output result output errors) h =
      weaker (suc (suc (n + 4))) (n + 6) (omega arith)
      (tagged_writable (codes "output") _ refl (struct_writable _ refl (
        optional_writable execution_result_value
            (λ r is. weaker 4 (n + 4) (omega arith) (execution_result_writable r is)) result h.0,
        (
          weaker n (n + 4) (omega arith) (writable output h.1),
          (
            optional_writable (list_value string) (λ ts are.
                weaker 1 (n + 4) (omega arith) (list_writable string string_writable ts are))
                errors h.2,
            tt,
          ),
        ),
      )))
  description_writable (StartError message) h =
      weaker 1 (n + 6) (omega arith)
      (tagged_writable (codes "start-error") _ refl (string_writable message h))

  pub status_writable : (s : ExecuteStatus S O) → IsStatus P s
      → IsWritable (n + 7) (status_value output_value s)
  status_writable s h =
      weaker (suc (n + 6)) (n + 7) (omega arith) (struct_writable _ refl (
        optional_writable duration_value
            (λ d is. weaker 1 (n + 6) (omega arith) (duration_writable d is))
            s.cpu_time h.before.cpu_time,
        (
          weaker 1 (n + 6) (omega arith)
              (duration_writable s.delay_before_start h.before.delay_before_start),
          (
            optional_writable error_summary_value
                (λ e is. weaker 1 (n + 6) (omega arith) (error_summary_writable e is))
                s.error_summary h.before.error_summary,
            (
              boolean_writable s.is_slow,
              (
                description_writable s.output h.output,
                (
                  optional_writable error_slice_value
                      (λ e is. weaker 1 (n + 6) (omega arith) (error_slice_writable e is))
                      s.output_error_slice h.after.output_error_slice,
                  (
                    weaker 4 (n + 6) (omega arith)
                        (execution_result_writable s.result h.after.result),
                    (
                      weaker 1 (n + 6) (omega arith)
                          (retry_data_writable s.retry_data h.after.retry_data),
                      (
                        weaker 1 (n + 6) (omega arith)
                            (stamp_writable s.start_time h.after.start_time),
                        (
                          weaker 1 (n + 6) (omega arith)
                              (duration_writable s.time_taken h.after.time_taken),
                          tt,
                        ),
                      ),
                    ),
                  ),
                ),
              ),
            ),
          ),
        ),
      ))

  pub statuses_writable : (s : ExecutionStatuses S O) → AreStatuses P s
      → IsWritable (n + 9) (statuses_value output_value s)
  statuses_writable s h =
      weaker (suc (suc (n + 7))) (n + 9) (omega arith) (struct_writable _ refl (
        list_writable (status_value output_value) status_writable s.statuses h.statuses,
        (weaker 0 (suc (n + 7)) (omega arith) (flaky_result_writable s.flaky_result), tt),
      ))

-- ---- what is read is well-formed

before_output_well_formed : (ms : Members) → Holds IsBeforeOutput (before_output_form ms)
unfolding before_output_form
before_output_well_formed ms =
    maybe_then duration_form (codes "cpu-time") ms _ duration_well_formed (λ cpu_time cpu_time_is.
    required_then duration_form (codes "delay-before-start") ms _ duration_well_formed
    (λ delay_before_start delay_before_start_is.
    required_then as_bool (codes "is-slow") ms _ (any_well_formed as_bool) (λ is_slow is_slow_is.
    maybe_then error_summary_form (codes "error-summary") ms _ error_summary_well_formed
    (λ error_summary error_summary_is.
    record {
      is = record {
        cpu_time = cpu_time_is;
        delay_before_start = delay_before_start_is;
        error_summary = error_summary_is;
      };
    }))))

after_output_well_formed : (ms : Members) → Holds IsAfterOutput (after_output_form ms)
unfolding after_output_form
after_output_well_formed ms =
    required_then retry_data_form (codes "retry-data") ms _ retry_data_well_formed
    (λ retry_data retry_data_is.
    required_then stamp_form (codes "start-time") ms _ stamp_well_formed
    (λ start_time start_time_is.
    required_then duration_form (codes "time-taken") ms _ duration_well_formed
    (λ time_taken time_taken_is.
    maybe_then error_slice_form (codes "output-error-slice") ms _ error_slice_well_formed
    (λ output_error_slice output_error_slice_is.
    required_then execution_result_form (codes "result") ms _ execution_result_well_formed
    (λ result result_is.
    record {
      is = record {
        output_error_slice = output_error_slice_is;
        result = result_is;
        retry_data = retry_data_is;
        start_time = start_time_is;
        time_taken = time_taken_is;
      };
    })))))

-- a list that is not empty
some_well_formed : {T : Type 0} {P : T → Type 0} (form : Data → Option T) → GivesWellFormed P form
    → GivesWellFormed (λ xs. AllByRecursion P xs × (0 < length xs)) (some_form form)
some_well_formed form h = record {
  each = λ d.
      and_then_holds (λ xs. only (nat_lt 0 (length xs)) xs) (list_form form d)
      ((list_well_formed form h).each d) (λ xs all.
      only_holds (nat_lt 0 (length xs)) xs (λ passed. (all, below_limit 0 (length xs) passed)));
}

module _ {S O : Type 0} (P : O → Type 0) (output_form : Data → Option O)
    (gives : GivesWellFormed P output_form) where
  output_case_well_formed : GivesWellFormed {T = ChildExecutionOutputDescription S O}
      (IsDescription P) (output_case_form output_form)
  unfolding output_case_form
  output_case_well_formed = record {
    each = λ d.
        object_then d _ (λ ms.
        maybe_then execution_result_form (codes "result") ms _ execution_result_well_formed
        (λ result result_is.
        required_then output_form (codes "output") ms _ gives (λ output output_is.
        maybe_then (list_form text_of) (codes "errors") ms _
        (list_well_formed text_of text_well_formed) (λ errors errors_is.
        record { is = (result_is, output_is, errors_is) }))));
  }

  start_error_well_formed : GivesWellFormed {T = ChildExecutionOutputDescription S O}
      (IsDescription P) (start_error_form output_form)
  start_error_well_formed = record {
    each = λ d. map_holds StartError (text_of d) (text_well_formed.each d) (λ message is. is);
  }

  pub description_well_formed : GivesWellFormed {T = ChildExecutionOutputDescription S O}
      (IsDescription P) (description_form output_form)
  unfolding description_form
  description_well_formed =
      variant_well_formed (IsDescription P) [] ((codes "output", output_case_form output_form) ∷ (
        codes "start-error",
        start_error_form output_form,
      ) ∷ []) tt (output_case_well_formed, (start_error_well_formed, tt))

  pub status_well_formed : GivesWellFormed {T = ExecuteStatus S O} (IsStatus P)
      (status_form output_form)
  unfolding status_form
  status_well_formed = record {
    each = λ d.
        object_then d _ (λ ms.
        then_holds (before_output_form ms) _ (before_output_well_formed ms) (λ before before_is.
        then_holds (after_output_form ms) _ (after_output_well_formed ms) (λ after after_is.
        required_then (description_form output_form) (codes "output") ms _ description_well_formed
        (λ output output_is.
        record { is = record { before = before_is; output = output_is; after = after_is } }))));
  }

  attempts_well_formed : GivesWellFormed {T = List (ExecuteStatus S O)}
      (λ ss. AllByRecursion (IsStatus P) ss × (0 < length ss)) (attempts_form output_form)
  unfolding attempts_form
  attempts_well_formed = some_well_formed (status_form output_form) status_well_formed

  pub statuses_well_formed : GivesWellFormed {T = ExecutionStatuses S O} (AreStatuses P)
      (statuses_form output_form)
  unfolding statuses_form
  statuses_well_formed = record {
    each = λ d.
        object_then d _ (λ ms.
        required_then flaky_result_form (codes "flaky-result") ms _
        (any_well_formed flaky_result_form) (λ flaky_result flaky_result_is.
        required_then (attempts_form output_form) (codes "statuses") ms _ attempts_well_formed
        (λ statuses statuses_is.
        record { is = record { statuses = statuses_is.0; some = statuses_is.1 } })));
  }
