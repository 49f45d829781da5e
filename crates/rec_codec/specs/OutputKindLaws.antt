-- The kinds of events that hold outputs read back where these do, and are writable where these are.
use Rattle.std.proofs.Common.{arith}
use Rattle.std.specs.Prelude.{◌≡◌, ℕ, ◌+◌, refl, Option, Some, codes}
use Rattle.serde_json.specs.Data.{Data, string, Members}
use Rattle.serde_json.specs.Find.{as_bool}
use Rattle.rec_events.specs.declared.events.OutputEventKind.TheVariants.{
  SetupScriptFinished,
  TestAttemptFailedWillRetry,
  TestFinished,
}
use Rattle.rec_events.specs.declared.events.OutputEventKind.{OutputEventKind}
use Rattle.rec_events.specs.declared.events.TestEventKindSummary.TheVariants.{Output}
use Rattle.rec_events.specs.Names.{IsText}
use Rattle.rec_events.specs.Times.{Span, Moment}
use Rattle.rec_forms.specs.GivesWellFormed.{Holds, GivesWellFormed}
use Rattle.rec_forms.specs.InstanceLaws.{test_instance_back, test_instance_writable}
use Rattle.rec_forms.specs.InstanceLaws.{stress_index_back, stress_index_writable}
use Rattle.rec_forms.specs.InstanceLaws.{stress_index_well_formed, test_instance_well_formed}
use Rattle.rec_forms.specs.Instances.{stress_index_value, stress_index_form}
use Rattle.rec_forms.specs.Instances.{IsStressIndex, test_instance_form}
use Rattle.rec_forms.specs.ListLaws.{list_back, maybe_back}
use Rattle.rec_forms.specs.Members.{get_member-members_of}
use Rattle.rec_forms.specs.NumberLaws.{u64_back, text_back, u64_well_formed}
use Rattle.rec_forms.specs.Numbers.{u64_form}
use Rattle.rec_forms.specs.Reporting.{output_display_form}
use Rattle.rec_forms.specs.ReportingLaws.{output_display_back, output_display_writable}
use Rattle.rec_forms.specs.ReportingLaws.{flaky_fail_status_back, flaky_fail_status_writable}
use Rattle.rec_forms.specs.Shape.{text_of}
use Rattle.rec_forms.specs.Stats.{run_stats_form}
use Rattle.rec_forms.specs.StatsLaws.{run_stats_back, run_stats_writable, run_stats_well_formed}
use Rattle.rec_forms.specs.TimeLaws.{stamp_back, duration_back}
use Rattle.rec_forms.specs.TimeLaws.{duration_writable, duration_well_formed}
use Rattle.rec_forms.specs.Times.{IsStamp, IsDuration, duration_form}
use Rattle.rec_forms.specs.WellFormedLaws.{any_well_formed, anything, then_holds}
use Rattle.rec_forms.specs.WellFormedLaws.{required_then, maybe_then}
use Rattle.rec_forms.specs.Writable.{IsWritable, weaker, natural_writable}
use Rattle.rec_forms.specs.Writable.{string_writable, word_writable, boolean_writable}
use Rattle.rec_codec.specs.CoreKindForms.{place_form, command_form}
use Rattle.rec_codec.specs.CoreKindLaws.{FieldsWritten, stress_index_written, texts_written}
use Rattle.rec_codec.specs.CoreKindsWellFormed.{place_well_formed, command_well_formed}
use Rattle.rec_codec.specs.EventForms.{kind_named, kind_form, event_value, event_form}
use Rattle.rec_codec.specs.OutputKinds.{reporting_form, output_fields, script_finished_form}
use Rattle.rec_codec.specs.OutputKinds.{attempt_failed_form, test_finished_form, IsOutput}
use Rattle.rec_codec.specs.ScriptStatus.{script_status_form}
use Rattle.rec_codec.specs.ScriptStatusLaws.{
  script_status_back,
  script_status_writable,
  script_status_well_formed,
}
use Rattle.rec_codec.specs.Status.{statuses_form, status_form}
use Rattle.rec_codec.specs.StatusLaws.{status_well_formed, status_back, status_writable}
use Rattle.rec_codec.specs.StatusLaws.{statuses_back, statuses_writable, statuses_well_formed}

-- ---- read back

module _ {S O : Type 0} (P : O → Type 0) (output_value : O → Data) (output_form : Data → Option O)
    (back : (o : O) → P o → output_form (output_value o) ≡ Some o) where
  pub output_back : (t : Moment) (e : Span) (k : OutputEventKind S O) → IsStamp t → IsDuration e
      → IsOutput P k
      → event_form output_form
      (event_value output_value (record { timestamp = t; elapsed = e; kind = Output k }))
      ≡ Some (record { timestamp = t; elapsed = e; kind = Output k })
  unfolding event_form kind_form kind_named place_form command_form script_finished_form
      attempt_failed_form reporting_form test_finished_form
  output_back t e
      (SetupScriptFinished stress_index index total script_id program args no_capture run_status)
      ht he h =
      simp (
        get_member-members_of,
        stamp_back t ht,
        duration_back e he,
        maybe_back IsStressIndex stress_index_value stress_index_form stress_index_back
            stress_index_writable stress_index h.0,
        u64_back index h.1,
        u64_back total h.2,
        text_back script_id h.3,
        text_back program h.4,
        list_back IsText string text_of text_back args h.5,
        script_status_back P output_value output_form back run_status h.6,
      )
  output_back t e (TestAttemptFailedWillRetry stress_index test_instance run_status
      delay_before_next_attempt failure_output running)
      ht he h =
      simp (
        get_member-members_of,
        stamp_back t ht,
        duration_back e he,
        maybe_back IsStressIndex stress_index_value stress_index_form stress_index_back
            stress_index_writable stress_index h.0,
        test_instance_back test_instance h.1,
        status_back P output_value output_form back run_status h.2,
        duration_back delay_before_next_attempt h.3,
        output_display_back failure_output,
        u64_back running h.4,
      )
  output_back t e (TestFinished stress_index test_instance success_output failure_output
      store_success store_failure flaky_fail_status run_statuses current_stats running)
      ht he h =
      simp (
        get_member-members_of,
        stamp_back t ht,
        duration_back e he,
        output_display_back success_output,
        output_display_back failure_output,
        flaky_fail_status_back flaky_fail_status,
        maybe_back IsStressIndex stress_index_value stress_index_form stress_index_back
            stress_index_writable stress_index h.0,
        test_instance_back test_instance h.1,
        statuses_back P output_value output_form back run_statuses h.2,
        run_stats_back current_stats h.3,
        u64_back running h.4,
      )

-- ---- writable

module _ {S O : Type 0} (P : O → Type 0) (n : ℕ) (output_value : O → Data)
    (writable : (o : O) → P o → IsWritable n (output_value o)) where
  pub output_written : (k : OutputEventKind S O) → IsOutput P k
      → FieldsWritten (n + 9) (output_fields output_value k)
  output_written
      (SetupScriptFinished stress_index index total script_id program args no_capture run_status)
      h = (
        refl,
        (
          word_writable (codes "setup-script-finished") refl,
          (
            stress_index_written n stress_index h.0,
            (
              natural_writable index h.1,
              (
                natural_writable total h.2,
                (
                  string_writable script_id h.3,
                  (
                    string_writable program h.4,
                    (
                      texts_written n args h.5,
                      (
                        boolean_writable no_capture,
                        (
                          weaker (n + 7) (n + 9) (omega arith)
                              (script_status_writable P n output_value writable run_status h.6),
                          tt,
                        ),
                      ),
                    ),
                  ),
                ),
              ),
            ),
          ),
        ),
      )
  output_written (TestAttemptFailedWillRetry stress_index test_instance run_status
      delay_before_next_attempt failure_output running) h = (
        refl,
        (
          word_writable (codes "test-attempt-failed-will-retry") refl,
          (
            stress_index_written n stress_index h.0,
            (
              weaker 1 (n + 9) (omega arith) (test_instance_writable test_instance h.1),
              (
                weaker (n + 7) (n + 9) (omega arith)
                    (status_writable P n output_value writable run_status h.2),
                (
                  weaker 1 (n + 9) (omega arith) (duration_writable delay_before_next_attempt h.3),
                  (
                    weaker 0 (n + 9) (omega arith) (output_display_writable failure_output),
                    (natural_writable running h.4, tt),
                  ),
                ),
              ),
            ),
          ),
        ),
      )
  output_written (TestFinished stress_index test_instance success_output failure_output
      store_success store_failure flaky_fail_status run_statuses current_stats running) h = (
        refl,
        (
          word_writable (codes "test-finished") refl,
          (
            stress_index_written n stress_index h.0,
            (
              weaker 1 (n + 9) (omega arith) (test_instance_writable test_instance h.1),
              (
                weaker 0 (n + 9) (omega arith) (output_display_writable success_output),
                (
                  weaker 0 (n + 9) (omega arith) (output_display_writable failure_output),
                  (
                    weaker 0 (n + 9) (omega arith) (flaky_fail_status_writable flaky_fail_status),
                    (
                      boolean_writable store_failure,
                      (
                        boolean_writable store_success,
                        (
                          statuses_writable P n output_value writable run_statuses h.2,
                          (
                            weaker 1 (n + 9) (omega arith) (run_stats_writable current_stats h.3),
                            (natural_writable running h.4, tt),
                          ),
                        ),
                      ),
                    ),
                  ),
                ),
              ),
            ),
          ),
        ),
      )

-- ---- what is read is well-formed

module _ {S O : Type 0} (P : O → Type 0) (output_form : Data → Option O)
    (gives : GivesWellFormed P output_form) where
  pub script_finished_well_formed : (ms : Members)
      → Holds {T = OutputEventKind S O} (IsOutput P) (script_finished_form output_form ms)
  unfolding script_finished_form
  script_finished_well_formed ms =
      then_holds (place_form ms) _ (place_well_formed ms) (λ place place_is.
      required_then as_bool (codes "no-capture") ms _ (any_well_formed as_bool)
      (λ no_capture no_capture_is.
      then_holds (command_form ms) _ (command_well_formed ms) (λ command command_is.
      required_then (script_status_form output_form) (codes "run-status") ms _
      (script_status_well_formed P output_form gives) (λ run_status run_status_is.
      record {
        is = (
          place_is.stress_index,
          place_is.index,
          place_is.total,
          command_is.script_id,
          command_is.program,
          command_is.args,
          run_status_is,
        );
      }))))

  pub attempt_failed_well_formed : (ms : Members)
      → Holds {T = OutputEventKind S O} (IsOutput P) (attempt_failed_form output_form ms)
  unfolding attempt_failed_form
  attempt_failed_well_formed ms =
      maybe_then stress_index_form (codes "stress-index") ms _ stress_index_well_formed
      (λ stress_index stress_index_is.
      required_then test_instance_form (codes "test-instance") ms _ test_instance_well_formed
      (λ test_instance test_instance_is.
      required_then (status_form output_form) (codes "run-status") ms _
      (status_well_formed P output_form gives) (λ run_status run_status_is.
      required_then duration_form (codes "delay-before-next-attempt") ms _ duration_well_formed
      (λ delay_before_next_attempt delay_before_next_attempt_is.
      required_then output_display_form (codes "failure-output") ms _
      (any_well_formed output_display_form) (λ failure_output failure_output_is.
      required_then u64_form (codes "running") ms _ u64_well_formed (λ running running_is.
      record {
        is = (
          stress_index_is,
          test_instance_is,
          run_status_is,
          delay_before_next_attempt_is,
          running_is,
        );
      }))))))

  pub test_finished_well_formed : (ms : Members)
      → Holds {T = OutputEventKind S O} (IsOutput P) (test_finished_form output_form ms)
  unfolding test_finished_form
  test_finished_well_formed ms =
      then_holds (reporting_form ms) _ (anything (reporting_form ms)) (λ reporting reporting_is.
      maybe_then stress_index_form (codes "stress-index") ms _ stress_index_well_formed
      (λ stress_index stress_index_is.
      required_then test_instance_form (codes "test-instance") ms _ test_instance_well_formed
      (λ test_instance test_instance_is.
      required_then (statuses_form output_form) (codes "run-statuses") ms _
      (statuses_well_formed P output_form gives) (λ run_statuses run_statuses_is.
      required_then run_stats_form (codes "current-stats") ms _ run_stats_well_formed
      (λ current_stats current_stats_is.
      required_then u64_form (codes "running") ms _ u64_well_formed (λ running running_is.
      record {
        is = (stress_index_is, test_instance_is, run_statuses_is, current_stats_is, running_is);
      }))))))
