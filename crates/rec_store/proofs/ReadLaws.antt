-- What the bundle of a run is read as.
use Rattle.std.proofs.Common.{◌≡◌, ℕ, ◌<◌, ◌^◌, length, List, [], ◌∷◌}
use Rattle.std.proofs.Common.{None, map, refl, sym, ap, subst, ◌∙◌}
use Rattle.std.specs.List.{AllByRecursion}
use Rattle.rec_format.proofs.TextLaws.{head_texts, recorded_manifest_text}
use Rattle.rec_format.specs.declared.head.SessionHead.{SessionHead}
use Rattle.rec_format.specs.declared.run.RecordedRunInfo.{RecordedRunInfo}
use Rattle.rec_format.specs.HeadForms.{IsHead}
use Rattle.rec_codec.proofs.LogLaws.{event_logged, log_events_back}
use Rattle.rec_codec.specs.Event.{LiveEvent, IsLogged}
use Rattle.rec_store.proofs.EntrySpellings.{stored_spelled, written_sizes_are}
use Rattle.rec_store.proofs.KeptLaws.{resolved_events}
use Rattle.rec_store.proofs.OtherEntries.{no_rerun}
use Rattle.rec_store.proofs.OutputLaws.{outputs_are_others, outputs_of_events, stored_are_outputs}
use Rattle.rec_store.proofs.OutputsRead.{run_held, run_outputs_read}
use Rattle.rec_store.proofs.RecordedEvents.{event_recorded_is}
use Rattle.rec_store.proofs.RecordedParts.{recorded_written, same_info}
use Rattle.rec_store.proofs.WrittenRuns.{written_reads}
use Rattle.rec_store.specs.Bundle.{events_recorded, outputs_stored}
use Rattle.rec_store.specs.Bundle.{run_bundle, run_outputs, run_store}
use Rattle.rec_store.specs.Clashes.{clash}
use Rattle.rec_store.specs.EventOutputs.{event_recorded}
use Rattle.rec_store.specs.Kept.{KeptEvent, event_kept}
use Rattle.rec_store.specs.Reading.{IsReading, RunRecord, recorded}
use Rattle.rec_store.specs.Recordable.{IsRecordable}
use Rattle.rec_store.specs.RunParts.{AreBack, RunParts, recorded_parts}
use Rattle.rec_store.specs.RunParts.{settled_info, written, written_sizes}

module _ (number : List ℕ → ℕ) (m : ℕ) (head : SessionHead) (events : List LiveEvent) where
  abbrev parts : RunParts
  parts = recorded_parts number m head events

  -- its parts are read back from what is written of them,
  -- where each line of its log is read as its event
  recorded_back : IsHead head → AllByRecursion IsLogged (events_recorded number m events)
      → clash [] (run_outputs number m events) ≡ None → length (written parts) < 2 ^ 64
      → AreBack parts
  recorded_back is logged agree small =
      let texts = head_texts head is in
      record {
        manifest =
            recorded_manifest_text head (written_sizes parts) is (written_sizes_are parts small);
        log = log_events_back (events_recorded number m events) logged;
        build_scope = texts.build_scope;
        test_list = texts.test_list;
        record_opts = texts.record_opts;
        cargo_metadata = texts.cargo_metadata;
        rerun_info = texts.rerun_info;
        no_rerun =
            no_rerun (outputs_stored number m events) (outputs_are_others
            (outputs_stored number m events) (stored_are_outputs number m events));
        outputs = run_outputs_read number m head events agree;
      }

  with_events : List KeptEvent → RecordedRunInfo → RunRecord
  with_events kept info = record (recorded number m head events) { run = info; events = kept }

  -- so its bundle is read as what was recorded of it
  pub bundle_reads_logged : IsHead head → AllByRecursion IsLogged (events_recorded number m events)
      → clash [] (run_outputs number m events) ≡ None
      → length (run_bundle number m head events) < 2 ^ 64
      → IsReading (run_bundle number m head events) (recorded number m head events)
  unfolding with_events
  bundle_reads_logged is logged agree small =
      let same = recorded_written number m head events in
      let short = subst (λ (b : List ℕ). length b < 2 ^ 64) same small in
      let spelled = stored_spelled parts short (run_outputs number m events)
      (outputs_of_events number m events) refl in
      let kept =
      ap (λ (l : List KeptEvent). with_events l (settled_info parts)) (resolved_events number m
      (run_store number m head events) events (run_held number m head events agree))
      ∙ ap (with_events (map (event_kept m) events)) (sym (same_info number m head events)) in
      subst (λ (b : List ℕ). IsReading b (recorded number m head events)) (sym same)
      (subst (λ (r : RunRecord). IsReading (written parts) r) kept
      (written_reads parts (recorded_back is logged agree short) spelled short))

pub all_logged : (number : List ℕ → ℕ) (m : ℕ) → ((b : List ℕ) → number b < 2 ^ 64)
    → (events : List LiveEvent) → AllByRecursion IsRecordable events
    → AllByRecursion IsLogged (events_recorded number m events)
all_logged number m in_range [] are = tt
all_logged number m in_range (e ∷ events) are = (
  event_logged (event_recorded number m e) (event_recorded_is number m in_range e are.0),
  all_logged number m in_range events are.1,
)

-- and where its events can be recorded
pub bundle_reads_spec : (number : List ℕ → ℕ) (m : ℕ) (head : SessionHead) (events : List LiveEvent)
    → IsHead head → AllByRecursion IsRecordable events → ((b : List ℕ) → number b < 2 ^ 64)
    → clash [] (run_outputs number m events) ≡ None
    → length (run_bundle number m head events) < 2 ^ 64
    → IsReading (run_bundle number m head events) (recorded number m head events)
bundle_reads_spec number m head events is are in_range agree small =
    bundle_reads_logged number m head events is (all_logged number m in_range events are)
    agree small
