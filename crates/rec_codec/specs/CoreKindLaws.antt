-- The kinds of events that hold no outputs read back, and are writable.
use Rattle.std.proofs.Common.{arith}
use Rattle.std.specs.Prelude.{◌≡◌, ℕ, ◌+◌, true, refl, List, Option}
use Rattle.std.specs.Prelude.{Some, IfSome, option_map, codes}
use Rattle.serde_json.specs.Data.{Data, string}
use Rattle.rec_events.specs.declared.events.CoreEventKind.TheVariants.{
  RunFinished,
  RunStarted,
  StressSubRunStarted,
  SetupScriptStarted,
  SetupScriptSlow,
  TestStarted,
  TestSlow,
  TestRetryStarted,
  TestSkipped,
  RunBeginCancel,
  RunPaused,
  RunContinued,
  StressSubRunFinished,
}
use Rattle.rec_events.specs.declared.events.CoreEventKind.{CoreEventKind}
use Rattle.rec_events.specs.declared.events.TestEventKindSummary.TheVariants.{Core}
use Rattle.rec_events.specs.declared.instances.StressIndexSummary.{StressIndexSummary}
use Rattle.rec_events.specs.Names.{IsText, AreTexts}
use Rattle.rec_events.specs.Times.{Span, Moment}
use Rattle.rec_forms.specs.IdLaws.{uuid_back, uuid_writable}
use Rattle.rec_forms.specs.InstanceLaws.{stress_index_back, stress_index_writable}
use Rattle.rec_forms.specs.InstanceLaws.{test_instance_back, test_instance_writable}
use Rattle.rec_forms.specs.InstanceLaws.{slot_assignment_back, slot_assignment_writable}
use Rattle.rec_forms.specs.InstanceLaws.{retry_data_back, retry_data_writable}
use Rattle.rec_forms.specs.Instances.{stress_index_value, stress_index_form, IsStressIndex}
use Rattle.rec_forms.specs.ListLaws.{list_back, maybe_back}
use Rattle.rec_forms.specs.Lists.{list_value}
use Rattle.rec_forms.specs.Members.{get_member-members_of}
use Rattle.rec_forms.specs.NumberLaws.{u64_back, text_back}
use Rattle.rec_forms.specs.ReportingLaws.{cancel_reason_back, cancel_reason_writable}
use Rattle.rec_forms.specs.RunEndLaws.{run_finished_stats_back, run_finished_stats_writable}
use Rattle.rec_forms.specs.RunEndLaws.{tests_not_seen_back, tests_not_seen_writable}
use Rattle.rec_forms.specs.RunEnds.{tests_not_seen_value, tests_not_seen_form, IsTestsNotSeen}
use Rattle.rec_forms.specs.Shape.{Field, text_of}
use Rattle.rec_forms.specs.SkippingLaws.{mismatch_reason_back, mismatch_reason_writable}
use Rattle.rec_forms.specs.SkippingLaws.{skip_policy_back, skip_policy_writable}
use Rattle.rec_forms.specs.StatsLaws.{run_stats_back, run_stats_writable}
use Rattle.rec_forms.specs.Stress.{stress_condition_value, stress_condition_form, IsStressCondition}
use Rattle.rec_forms.specs.StressLaws.{stress_condition_back, stress_condition_writable}
use Rattle.rec_forms.specs.StressLaws.{stress_progress_back, stress_progress_writable}
use Rattle.rec_forms.specs.TimeLaws.{stamp_back, stamp_writable, duration_back, duration_writable}
use Rattle.rec_forms.specs.Times.{IsStamp, IsDuration}
use Rattle.rec_forms.specs.Writable.{IsWritable, IfWritten, EachWritten, keys_are_ascii}
use Rattle.rec_forms.specs.Writable.{weaker, natural_writable, string_writable, word_writable}
use Rattle.rec_forms.specs.Writable.{boolean_writable, list_writable, optional_writable}
use Rattle.rec_codec.specs.CoreKindForms.{place_form, command_form, run_started_form}
use Rattle.rec_codec.specs.CoreKindForms.{stress_sub_run_started_form, setup_script_started_form}
use Rattle.rec_codec.specs.CoreKindForms.{run_paused_form, run_continued_form}
use Rattle.rec_codec.specs.CoreKindForms.{stress_sub_run_finished_form, run_finished_form}
use Rattle.rec_codec.specs.CoreKindForms.{setup_script_slow_form, test_started_form}
use Rattle.rec_codec.specs.CoreKindForms.{test_slow_form, test_retry_started_form}
use Rattle.rec_codec.specs.CoreKindForms.{test_skipped_form, run_begin_cancel_form}
use Rattle.rec_codec.specs.CoreKinds.{core_fields, IsCore}
use Rattle.rec_codec.specs.EventForms.{kind_named, kind_form, event_value, event_form}

-- ---- read back

module _ {S O : Type 0} (output_value : O → Data) (output_form : Data → Option O) where
  pub core_back : (t : Moment) (e : Span) (k : CoreEventKind) → IsStamp t → IsDuration e → IsCore k
      → event_form {S = S} output_form
      (event_value {S = S} output_value (record { timestamp = t; elapsed = e; kind = Core k }))
      ≡ Some (record { timestamp = t; elapsed = e; kind = Core k })
  unfolding event_form kind_form kind_named run_started_form stress_sub_run_started_form place_form
      command_form setup_script_started_form setup_script_slow_form test_started_form test_slow_form
      test_retry_started_form test_skipped_form run_begin_cancel_form run_paused_form
      run_continued_form stress_sub_run_finished_form run_finished_form
  core_back t e (RunStarted run_id profile_name cli_args stress_condition) ht he h =
      simp (
        get_member-members_of,
        stamp_back t ht,
        duration_back e he,
        uuid_back run_id h.0,
        text_back profile_name h.1,
        list_back IsText string text_of text_back cli_args h.2,
        maybe_back IsStressCondition stress_condition_value stress_condition_form
            stress_condition_back stress_condition_writable stress_condition h.3,
      )
  core_back t e (StressSubRunStarted progress) ht he h =
      simp (
        get_member-members_of,
        stamp_back t ht,
        duration_back e he,
        stress_progress_back progress h,
      )
  core_back t e (SetupScriptStarted stress_index index total script_id program args no_capture)
      ht he h =
      simp (
        get_member-members_of,
        stamp_back t ht,
        duration_back e he,
        maybe_back IsStressIndex stress_index_value stress_index_form stress_index_back
            stress_index_writable stress_index h.0,
        u64_back index h.1,
        u64_back total h.2,
        text_back script_id h.3,
        text_back program h.4,
        list_back IsText string text_of text_back args h.5,
      )
  core_back t e (SetupScriptSlow stress_index script_id program args elapsed will_terminate)
      ht he h =
      simp (
        get_member-members_of,
        stamp_back t ht,
        duration_back e he,
        maybe_back IsStressIndex stress_index_value stress_index_form stress_index_back
            stress_index_writable stress_index h.0,
        text_back script_id h.1,
        text_back program h.2,
        list_back IsText string text_of text_back args h.3,
        duration_back elapsed h.4,
      )
  core_back t e
      (TestStarted stress_index test_instance slot_assignment current_stats running command_line)
      ht he h =
      simp (
        get_member-members_of,
        stamp_back t ht,
        duration_back e he,
        maybe_back IsStressIndex stress_index_value stress_index_form stress_index_back
            stress_index_writable stress_index h.0,
        test_instance_back test_instance h.1,
        slot_assignment_back slot_assignment h.2,
        run_stats_back current_stats h.3,
        u64_back running h.4,
        list_back IsText string text_of text_back command_line h.5,
      )
  core_back t e (TestSlow stress_index test_instance retry_data elapsed will_terminate) ht he h =
      simp (
        get_member-members_of,
        stamp_back t ht,
        duration_back e he,
        maybe_back IsStressIndex stress_index_value stress_index_form stress_index_back
            stress_index_writable stress_index h.0,
        test_instance_back test_instance h.1,
        retry_data_back retry_data h.2,
        duration_back elapsed h.3,
      )
  core_back t e
      (TestRetryStarted stress_index test_instance slot_assignment retry_data running command_line)
      ht he h =
      simp (
        get_member-members_of,
        stamp_back t ht,
        duration_back e he,
        maybe_back IsStressIndex stress_index_value stress_index_form stress_index_back
            stress_index_writable stress_index h.0,
        test_instance_back test_instance h.1,
        slot_assignment_back slot_assignment h.2,
        retry_data_back retry_data h.3,
        u64_back running h.4,
        list_back IsText string text_of text_back command_line h.5,
      )
  core_back t e (TestSkipped stress_index test_instance reason junit_report_skipped) ht he h =
      simp (
        get_member-members_of,
        stamp_back t ht,
        duration_back e he,
        maybe_back IsStressIndex stress_index_value stress_index_form stress_index_back
            stress_index_writable stress_index h.0,
        test_instance_back test_instance h.1,
        mismatch_reason_back reason,
        skip_policy_back junit_report_skipped,
      )
  core_back t e (RunBeginCancel setup_scripts_running running reason) ht he h =
      simp (
        get_member-members_of,
        stamp_back t ht,
        duration_back e he,
        u64_back setup_scripts_running h.0,
        u64_back running h.1,
        cancel_reason_back reason,
      )
  core_back t e (RunPaused setup_scripts_running running) ht he h =
      simp (
        get_member-members_of,
        stamp_back t ht,
        duration_back e he,
        u64_back setup_scripts_running h.0,
        u64_back running h.1,
      )
  core_back t e (RunContinued setup_scripts_running running) ht he h =
      simp (
        get_member-members_of,
        stamp_back t ht,
        duration_back e he,
        u64_back setup_scripts_running h.0,
        u64_back running h.1,
      )
  core_back t e (StressSubRunFinished progress sub_elapsed sub_stats) ht he h =
      simp (
        get_member-members_of,
        stamp_back t ht,
        duration_back e he,
        stress_progress_back progress h.0,
        duration_back sub_elapsed h.1,
        run_stats_back sub_stats h.2,
      )
  core_back t e (RunFinished run_id start_time elapsed run_stats outstanding_not_seen) ht he h =
      simp (
        get_member-members_of,
        stamp_back t ht,
        duration_back e he,
        uuid_back run_id h.0,
        stamp_back start_time h.1,
        duration_back elapsed h.2,
        run_finished_stats_back run_stats h.3,
        maybe_back IsTestsNotSeen tests_not_seen_value tests_not_seen_form tests_not_seen_back
            tests_not_seen_writable outstanding_not_seen h.4,
      )

-- ---- writable

-- fields with literal keys, each of which nests at most n deep
abbrev pub FieldsWritten : ℕ → List Field → Type 0
FieldsWritten n fs = (keys_are_ascii fs ≡ true) × EachWritten n fs

pub stress_index_written : (n : ℕ) (i : Option StressIndexSummary) → IfSome i IsStressIndex
    → IfWritten (n + 9) (option_map stress_index_value i)
stress_index_written n i h =
    optional_writable stress_index_value
    (λ x is. weaker 1 (n + 9) (omega arith) (stress_index_writable x is)) i h

pub texts_written : (n : ℕ) (ts : List (List ℕ)) → AreTexts ts
    → IsWritable (n + 9) (list_value string ts)
texts_written n ts h = weaker 1 (n + 9) (omega arith) (list_writable string string_writable ts h)

pub core_written : (n : ℕ) (k : CoreEventKind) → IsCore k → FieldsWritten (n + 9) (core_fields k)
core_written n (RunStarted run_id profile_name cli_args stress_condition) h = (
  refl,
  (
    word_writable (codes "run-started") refl,
    (
      weaker 0 (n + 9) (omega arith) (uuid_writable run_id h.0),
      (
        string_writable profile_name h.1,
        (
          texts_written n cli_args h.2,
          (
            optional_writable stress_condition_value
                (λ x is. weaker 2 (n + 9) (omega arith) (stress_condition_writable x is))
                stress_condition h.3,
            tt,
          ),
        ),
      ),
    ),
  ),
)
core_written n (StressSubRunStarted progress) h = (
  refl,
  (
    word_writable (codes "stress-sub-run-started") refl,
    (weaker 3 (n + 9) (omega arith) (stress_progress_writable progress h), tt),
  ),
)
core_written n (SetupScriptStarted stress_index index total script_id program args no_capture) h = (
  refl,
  (
    word_writable (codes "setup-script-started") refl,
    (
      stress_index_written n stress_index h.0,
      (
        natural_writable index h.1,
        (
          natural_writable total h.2,
          (
            string_writable script_id h.3,
            (
              string_writable program h.4,
              (
                texts_written n args h.5,
                (boolean_writable no_capture, tt),
              ),
            ),
          ),
        ),
      ),
    ),
  ),
)
core_written n (SetupScriptSlow stress_index script_id program args elapsed will_terminate) h = (
  refl,
  (
    word_writable (codes "setup-script-slow") refl,
    (
      stress_index_written n stress_index h.0,
      (
        string_writable script_id h.1,
        (
          string_writable program h.2,
          (
            texts_written n args h.3,
            (
              weaker 1 (n + 9) (omega arith) (duration_writable elapsed h.4),
              (boolean_writable will_terminate, tt),
            ),
          ),
        ),
      ),
    ),
  ),
)
core_written n
    (TestStarted stress_index test_instance slot_assignment current_stats running command_line)
    h = (
      refl,
      (
        word_writable (codes "test-started") refl,
        (
          stress_index_written n stress_index h.0,
          (
            weaker 1 (n + 9) (omega arith) (test_instance_writable test_instance h.1),
            (
              weaker 1 (n + 9) (omega arith) (slot_assignment_writable slot_assignment h.2),
              (
                weaker 1 (n + 9) (omega arith) (run_stats_writable current_stats h.3),
                (
                  natural_writable running h.4,
                  (texts_written n command_line h.5, tt),
                ),
              ),
            ),
          ),
        ),
      ),
    )
core_written n (TestSlow stress_index test_instance retry_data elapsed will_terminate) h = (
  refl,
  (
    word_writable (codes "test-slow") refl,
    (
      stress_index_written n stress_index h.0,
      (
        weaker 1 (n + 9) (omega arith) (test_instance_writable test_instance h.1),
        (
          weaker 1 (n + 9) (omega arith) (retry_data_writable retry_data h.2),
          (
            weaker 1 (n + 9) (omega arith) (duration_writable elapsed h.3),
            (boolean_writable will_terminate, tt),
          ),
        ),
      ),
    ),
  ),
)
core_written n
    (TestRetryStarted stress_index test_instance slot_assignment retry_data running command_line)
    h = (
      refl,
      (
        word_writable (codes "test-retry-started") refl,
        (
          stress_index_written n stress_index h.0,
          (
            weaker 1 (n + 9) (omega arith) (test_instance_writable test_instance h.1),
            (
              weaker 1 (n + 9) (omega arith) (slot_assignment_writable slot_assignment h.2),
              (
                weaker 1 (n + 9) (omega arith) (retry_data_writable retry_data h.3),
                (
                  natural_writable running h.4,
                  (texts_written n command_line h.5, tt),
                ),
              ),
            ),
          ),
        ),
      ),
    )
core_written n (TestSkipped stress_index test_instance reason junit_report_skipped) h = (
  refl,
  (
    word_writable (codes "test-skipped") refl,
    (
      stress_index_written n stress_index h.0,
      (
        weaker 1 (n + 9) (omega arith) (test_instance_writable test_instance h.1),
        (
          weaker 0 (n + 9) (omega arith) (mismatch_reason_writable reason),
          (weaker 0 (n + 9) (omega arith) (skip_policy_writable junit_report_skipped), tt),
        ),
      ),
    ),
  ),
)
core_written n (RunBeginCancel setup_scripts_running running reason) h = (
  refl,
  (
    word_writable (codes "run-begin-cancel") refl,
    (
      natural_writable setup_scripts_running h.0,
      (
        natural_writable running h.1,
        (weaker 0 (n + 9) (omega arith) (cancel_reason_writable reason), tt),
      ),
    ),
  ),
)
core_written n (RunPaused setup_scripts_running running) h = (
  refl,
  (
    word_writable (codes "run-paused") refl,
    (
      natural_writable setup_scripts_running h.0,
      (natural_writable running h.1, tt),
    ),
  ),
)
core_written n (RunContinued setup_scripts_running running) h = (
  refl,
  (
    word_writable (codes "run-continued") refl,
    (
      natural_writable setup_scripts_running h.0,
      (natural_writable running h.1, tt),
    ),
  ),
)
core_written n (StressSubRunFinished progress sub_elapsed sub_stats) h = (
  refl,
  (
    word_writable (codes "stress-sub-run-finished") refl,
    (
      weaker 3 (n + 9) (omega arith) (stress_progress_writable progress h.0),
      (
        weaker 1 (n + 9) (omega arith) (duration_writable sub_elapsed h.1),
        (weaker 1 (n + 9) (omega arith) (run_stats_writable sub_stats h.2), tt),
      ),
    ),
  ),
)
core_written n (RunFinished run_id start_time elapsed run_stats outstanding_not_seen) h = (
  refl,
  (
    word_writable (codes "run-finished") refl,
    (
      weaker 0 (n + 9) (omega arith) (uuid_writable run_id h.0),
      (
        weaker 1 (n + 9) (omega arith) (stamp_writable start_time h.1),
        (
          weaker 1 (n + 9) (omega arith) (duration_writable elapsed h.2),
          (
            weaker 3 (n + 9) (omega arith) (run_finished_stats_writable run_stats h.3),
            (
              optional_writable tests_not_seen_value
                  (λ x is. weaker 3 (n + 9) (omega arith) (tests_not_seen_writable x is))
                  outstanding_not_seen h.4,
              tt,
            ),
          ),
        ),
      ),
    ),
  ),
)
