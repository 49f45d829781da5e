-- Events read back where their outputs do, and are writable where these are.
use Rattle.std.proofs.Common.{arith}
use Rattle.std.specs.List.{AllByRecursion}
use Rattle.std.specs.Prelude.{◌≡◌, ℕ, suc, ◌+◌, Option, Some, List, codes}
use Rattle.serde_json.specs.Data.{Data, Members}
use Rattle.serde_json.specs.Find.{as_str}
use Rattle.rec_events.specs.declared.events.CoreEventKind.{CoreEventKind}
use Rattle.rec_events.specs.declared.events.OutputEventKind.{OutputEventKind}
use Rattle.rec_events.specs.declared.events.TestEventKindSummary.TheVariants.{Core, Output}
use Rattle.rec_events.specs.declared.events.TestEventKindSummary.{TestEventKindSummary}
use Rattle.rec_events.specs.declared.events.TestEventSummary.{TestEventSummary}
use Rattle.rec_events.specs.Times.{Span, Moment}
use Rattle.rec_forms.specs.GivesWellFormed.{Holds, GivesWellFormed}
use Rattle.rec_forms.specs.Shape.{◌>>=◌, named}
use Rattle.rec_forms.specs.TimeLaws.{stamp_writable, duration_writable}
use Rattle.rec_forms.specs.TimeLaws.{duration_well_formed, stamp_well_formed}
use Rattle.rec_forms.specs.Times.{IsStamp, IsDuration, duration_form, stamp_form}
use Rattle.rec_forms.specs.WellFormedLaws.{any_well_formed, named_holds}
use Rattle.rec_forms.specs.WellFormedLaws.{object_then, required_then, then_holds}
use Rattle.rec_forms.specs.Writable.{IsWritable, weaker, struct_writable}
use Rattle.rec_codec.specs.CoreKindForms.{
  run_started_form,
  stress_sub_run_started_form,
  setup_script_started_form,
  setup_script_slow_form,
  test_started_form,
}
use Rattle.rec_codec.specs.CoreKindForms.{stress_sub_run_finished_form, run_finished_form}
use Rattle.rec_codec.specs.CoreKindForms.{test_slow_form, test_retry_started_form}
use Rattle.rec_codec.specs.CoreKindForms.{test_skipped_form, run_begin_cancel_form}
use Rattle.rec_codec.specs.CoreKindForms.{run_paused_form, run_continued_form}
use Rattle.rec_codec.specs.CoreKindLaws.{FieldsWritten, core_back, core_written}
use Rattle.rec_codec.specs.CoreKinds.{IsCore}
use Rattle.rec_codec.specs.CoreKindsWellFormed.{
  run_started_well_formed,
  stress_sub_run_started_well_formed,
  run_continued_well_formed,
  stress_sub_run_finished_well_formed,
  run_finished_well_formed,
  setup_script_started_well_formed,
  setup_script_slow_well_formed,
  test_started_well_formed,
  test_slow_well_formed,
  test_retry_started_well_formed,
  test_skipped_well_formed,
  run_begin_cancel_well_formed,
  run_paused_well_formed,
}
use Rattle.rec_codec.specs.EventForms.{kind_fields, IsKind, event_value, event_form}
use Rattle.rec_codec.specs.EventForms.{IsEvent, kinds, kind_named, kind_form}
use Rattle.rec_codec.specs.OutputKindLaws.{output_back, output_written, script_finished_well_formed}
use Rattle.rec_codec.specs.OutputKindLaws.{attempt_failed_well_formed, test_finished_well_formed}
use Rattle.rec_codec.specs.OutputKinds.{IsOutput, script_finished_form}
use Rattle.rec_codec.specs.OutputKinds.{attempt_failed_form, test_finished_form}

module _ {S O : Type 0} (P : O → Type 0) (output_value : O → Data) (output_form : Data → Option O)
    (back : (o : O) → P o → output_form (output_value o) ≡ Some o) where
  kind_back : (t : Moment) (e : Span) (k : TestEventKindSummary S O) → IsStamp t → IsDuration e
      → IsKind P k
      → event_form output_form
      (event_value output_value (record { timestamp = t; elapsed = e; kind = k }))
      ≡ Some (record { timestamp = t; elapsed = e; kind = k })
  kind_back t e (Core kind) ht he h = core_back output_value output_form t e kind ht he h
  kind_back t e (Output kind) ht he h = output_back P output_value output_form back t e kind ht he h

  pub event_back : (e : TestEventSummary S O) → IsEvent P e
      → event_form output_form (event_value output_value e) ≡ Some e
  event_back e h = kind_back e.timestamp e.elapsed e.kind h.timestamp h.elapsed h.kind

module _ {S O : Type 0} (P : O → Type 0) (n : ℕ) (output_value : O → Data)
    (writable : (o : O) → P o → IsWritable n (output_value o)) where
  kind_written : (k : TestEventKindSummary S O) → IsKind P k
      → FieldsWritten (n + 9) (kind_fields output_value k)
  kind_written (Core kind) h = core_written n kind h
  kind_written (Output kind) h = output_written P n output_value writable kind h

  pub event_writable : (e : TestEventSummary S O) → IsEvent P e
      → IsWritable (n + 10) (event_value output_value e)
  event_writable e h =
      let kind = kind_written e.kind h.kind in
      weaker (suc (n + 9)) (n + 10) (omega arith) (struct_writable _ kind.0 (
        weaker 1 (n + 9) (omega arith) (stamp_writable e.timestamp h.timestamp),
        (weaker 1 (n + 9) (omega arith) (duration_writable e.elapsed h.elapsed), kind.1),
      ))

-- ---- what is read is well-formed

module _ {S O : Type 0} (P : O → Type 0) (output_form : Data → Option O)
    (gives : GivesWellFormed P output_form) where
  -- what a kind's form gives is well-formed
  abbrev KnownKind : (Members → Option (TestEventKindSummary S O)) → Type 0
  KnownKind form = (ms : Members) → Holds (IsKind P) (form ms)

  core_kind : (form : Members → Option CoreEventKind) → ((ms : Members) → Holds IsCore (form ms))
      → KnownKind (λ ms. form ms >>= λ k. Some (Core k))
  core_kind form h ms =
      then_holds (form ms) (λ k. Some (Core k)) (h ms) (λ k is. record { is = is })

  output_kind : (form : Members → Option (OutputEventKind S O))
      → ((ms : Members) → Holds (IsOutput P) (form ms))
      → KnownKind (λ ms. form ms >>= λ k. Some (Output k))
  output_kind form h ms =
      then_holds (form ms) (λ k. Some (Output k)) (h ms) (λ k is. record { is = is })

  each_well_formed : AllByRecursion (λ k. KnownKind k.1) (kinds output_form)
  each_well_formed = (
    output_kind (script_finished_form output_form)
        (script_finished_well_formed P output_form gives),
    (
      output_kind (attempt_failed_form output_form)
          (attempt_failed_well_formed P output_form gives),
      (
        output_kind (test_finished_form output_form)
            (test_finished_well_formed P output_form gives),
        (
          core_kind run_started_form run_started_well_formed,
          (
            core_kind stress_sub_run_started_form stress_sub_run_started_well_formed,
            (
              core_kind run_begin_cancel_form run_begin_cancel_well_formed,
              (
                core_kind run_paused_form run_paused_well_formed,
                (
                  core_kind run_continued_form run_continued_well_formed,
                  (
                    core_kind stress_sub_run_finished_form stress_sub_run_finished_well_formed,
                    (
                      core_kind run_finished_form run_finished_well_formed,
                      (
                        core_kind setup_script_started_form setup_script_started_well_formed,
                        (
                          core_kind setup_script_slow_form setup_script_slow_well_formed,
                          (
                            core_kind test_started_form test_started_well_formed,
                            (
                              core_kind test_slow_form test_slow_well_formed,
                              (
                                core_kind test_retry_started_form test_retry_started_well_formed,
                                (core_kind test_skipped_form test_skipped_well_formed, tt),
                              ),
                            ),
                          ),
                        ),
                      ),
                    ),
                  ),
                ),
              ),
            ),
          ),
        ),
      ),
    ),
  )

  named_well_formed : (name : List ℕ) → KnownKind (kind_named output_form name)
  unfolding kind_named
  named_well_formed name ms =
      then_holds (named (kinds output_form) name) (λ form. form ms)
      (named_holds KnownKind (kinds output_form) each_well_formed name) (λ form h. h ms)

  kind_well_formed : KnownKind (kind_form output_form)
  unfolding kind_form
  kind_well_formed ms =
      required_then as_str (codes "kind") ms _ (any_well_formed as_str)
      (λ name _. named_well_formed name ms)

  pub event_well_formed : GivesWellFormed (IsEvent {S = S} P) (event_form output_form)
  unfolding event_form
  event_well_formed = record {
    each = λ d.
        object_then d _ (λ ms.
        required_then stamp_form (codes "timestamp") ms _ stamp_well_formed
        (λ timestamp timestamp_is.
        required_then duration_form (codes "elapsed") ms _ duration_well_formed
        (λ elapsed elapsed_is.
        then_holds (kind_form output_form ms) _ (kind_well_formed ms) (λ kind kind_is.
        record {
          is = record { timestamp = timestamp_is; elapsed = elapsed_is; kind = kind_is };
        }))));
  }
