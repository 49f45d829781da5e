-- The span of an attempt lasts as the attempt does.
use Rattle.std.proofs.Common.{◌≡◌, ℕ, zero, suc, true, false, List, [], ◌∷◌, length, map, refl}
use Rattle.std.proofs.Common.{ap, sym, ◌∙◌, Some, subst}
use Rattle.std.proofs.lemmas.List.{length-map}
use Rattle.std.specs.Option.{option_map_or, unwrap_or}
use Rattle.rec_events.proofs.TestOrder.{test_eq-true}
use Rattle.rec_events.specs.declared.events.CoreEventKind.TheVariants.{
  RunStarted,
  StressSubRunStarted,
  SetupScriptStarted,
  SetupScriptSlow,
  TestStarted,
  TestSlow,
  TestRetryStarted,
  TestSkipped,
  RunBeginCancel,
  RunPaused,
  RunContinued,
  StressSubRunFinished,
  RunFinished,
}
use Rattle.rec_events.specs.declared.events.CoreEventKind.{CoreEventKind}
use Rattle.rec_events.specs.declared.events.OutputEventKind.TheVariants.{
  SetupScriptFinished,
  TestAttemptFailedWillRetry,
  TestFinished,
}
use Rattle.rec_events.specs.declared.events.OutputEventKind.{OutputEventKind}
use Rattle.rec_events.specs.declared.events.TestEventKindSummary.TheVariants.{Core, Output}
use Rattle.rec_events.specs.declared.events.TestEventKindSummary.{TestEventKindSummary}
use Rattle.rec_events.specs.declared.events.TestEventSummary.{TestEventSummary}
use Rattle.rec_events.specs.declared.instances.OwnedTestInstanceId.{OwnedTestInstanceId}
use Rattle.rec_spans.specs.Acts as spans
use Rattle.rec_spans.specs.declared.settings.ChromeTraceGroupBy.{ChromeTraceGroupBy}
use Rattle.rec_spans.specs.declared.spans.Span.{Span}
use Rattle.rec_spans.specs.declared.spans.SpanKey.TheVariants.{Test}
use Rattle.rec_spans.specs.Kinds.{change_of, history, history_after, test_span, trace_input}
use Rattle.rec_spans.specs.Past.Change.{Start}
use Rattle.rec_spans.specs.Past.{Change, TraceInput, binaries}
use Rattle.rec_spans.specs.Plain.{plain, plain_kind}
use Rattle.rec_spans.specs.Positions.{change_at}
use Rattle.rec_view.proofs.Attempts.{differ}
use Rattle.rec_view.proofs.Ends.{below, end_is}
use Rattle.rec_view.proofs.GapRuns.{history-many}
use Rattle.rec_view.proofs.SpanEnds.{span_lasts}
use Rattle.rec_view.specs.Acts.{act_of, acts, core_act}
use Rattle.rec_view.specs.AttemptPositions.{starts_attempt}
use Rattle.rec_view.specs.Attempts.{cuts, end_of}
use Rattle.rec_view.specs.Ends.{at}
use Rattle.rec_view.specs.Extents.{HasSpan, cuts_key}

-- ---- events without outputs

module _ (g : ChromeTraceGroupBy) (t : OwnedTestInstanceId) where
  core_cuts : (seen : List (List ℕ × ℕ)) (kind : CoreEventKind)
      → cuts_key (Test t) (change_of g seen (spans.core_act kind)) ≡ cuts t (core_act kind)
  core_cuts seen (RunStarted run_id profile_name cli_args stress_condition) = refl
  core_cuts seen (StressSubRunStarted progress) = refl
  core_cuts seen (SetupScriptStarted stress_index index total id program args no_capture) = refl
  core_cuts seen (SetupScriptSlow stress_index script_id program args elapsed will_terminate) = refl
  core_cuts seen (TestStarted stress_index test slot current_stats running command_line) = refl
  core_cuts seen (TestSlow stress_index test retry_data elapsed will_terminate) = refl
  core_cuts seen (TestRetryStarted stress_index test slot retry_data running command_line) = refl
  core_cuts seen (TestSkipped stress_index test reason skipped) = refl
  core_cuts seen (RunBeginCancel scripts running reason) = refl
  core_cuts seen (RunPaused scripts running) = refl
  core_cuts seen (RunContinued scripts running) = refl
  core_cuts seen (StressSubRunFinished progress sub_elapsed sub_stats) = refl
  core_cuts seen (RunFinished run_id start_time elapsed run_stats outstanding) = refl

  -- what starts at an attempt's start
  abbrev StartsSpan : Change → Type 0
  StartsSpan c = (s : Span) × (s.key ≡ Test t) × (c ≡ Start s)

  core_starts : (seen : List (List ℕ × ℕ)) (kind : CoreEventKind)
      → starts_attempt t (core_act kind) ≡ true
      → StartsSpan (change_of g seen (spans.core_act kind))
  core_starts seen (RunStarted run_id profile_name cli_args stress_condition) h = differ (sym h)
  core_starts seen (StressSubRunStarted progress) h = differ (sym h)
  core_starts seen (SetupScriptStarted stress_index index total id program args no_capture) h =
      differ (sym h)
  core_starts seen (SetupScriptSlow stress_index script_id program args elapsed will_terminate) h =
      differ (sym h)
  core_starts seen (TestStarted stress_index test slot current_stats running command_line) h =
      (test_span g seen test slot.global_slot, ap Test (test_eq-true test t h), refl)
  core_starts seen (TestSlow stress_index test retry_data elapsed will_terminate) h =
      differ (sym h)
  core_starts seen (TestRetryStarted stress_index test slot retry_data running command_line) h =
      (test_span g seen test slot.global_slot, ap Test (test_eq-true test t h), refl)
  core_starts seen (TestSkipped stress_index test reason skipped) h = differ (sym h)
  core_starts seen (RunBeginCancel scripts running reason) h = differ (sym h)
  core_starts seen (RunPaused scripts running) h = differ (sym h)
  core_starts seen (RunContinued scripts running) h = differ (sym h)
  core_starts seen (StressSubRunFinished progress sub_elapsed sub_stats) h = differ (sym h)
  core_starts seen (RunFinished run_id start_time elapsed run_stats outstanding) h =
      differ (sym h)

module _ {S O : Type 0} (g : ChromeTraceGroupBy) (t : OwnedTestInstanceId) where
  -- ---- one event

  abbrev change : List (List ℕ × ℕ) → TestEventKindSummary S O → Change
  change seen kind = change_of g seen (spans.act_of (plain_kind kind))

  output_cuts : (seen : List (List ℕ × ℕ)) (kind : OutputEventKind S O)
      → cuts_key (Test t) (change seen (Output kind)) ≡ cuts t (act_of (Output kind))
  output_cuts seen (SetupScriptFinished stress index total script program args no_capture status) =
      refl
  output_cuts seen (TestAttemptFailedWillRetry stress test status delay failure running) = refl
  output_cuts seen (TestFinished stress test success failure store_success store_failure junit
      statuses stats running) = refl

  kind_cuts : (seen : List (List ℕ × ℕ)) (kind : TestEventKindSummary S O)
      → cuts_key (Test t) (change seen kind) ≡ cuts t (act_of kind)
  kind_cuts seen (Core kind) = core_cuts g t seen kind
  kind_cuts seen (Output kind) = output_cuts seen kind

  output_starts : (seen : List (List ℕ × ℕ)) (kind : OutputEventKind S O)
      → starts_attempt t (act_of (Output kind)) ≡ true → StartsSpan g t (change seen (Output kind))
  output_starts seen (SetupScriptFinished stress index total script program args no_capture
      status) h = differ (sym h)
  output_starts seen (TestAttemptFailedWillRetry stress test status delay failure running) h =
      differ (sym h)
  output_starts seen (TestFinished stress test success failure store_success store_failure junit
      statuses stats running) h = differ (sym h)

  kind_starts : (seen : List (List ℕ × ℕ)) (kind : TestEventKindSummary S O)
      → starts_attempt t (act_of kind) ≡ true → StartsSpan g t (change seen kind)
  kind_starts seen (Core kind) h = core_starts g t seen kind h
  kind_starts seen (Output kind) h = output_starts seen kind h

  -- ---- a history

  cuts_at : (past : List TraceInput) (events : List (TestEventSummary S O)) (j : ℕ)
      → option_map_or (cuts_key (Test t)) (change_at (history_after g past (map plain events)) j)
      false ≡ at (cuts t) (acts events) j
  cuts_at past [] j = refl
  cuts_at past (e ∷ events) zero = kind_cuts (binaries past) e.kind
  cuts_at past (e ∷ events) (suc j) =
      cuts_at (trace_input g (binaries past) (plain e) ∷ past) events j

  starts_at : (past : List TraceInput) (events : List (TestEventSummary S O)) (k : ℕ)
      → at (starts_attempt t) (acts events) k ≡ true
      → (s : Span) × (s.key ≡ Test t)
      × (change_at (history_after g past (map plain events)) k ≡ Some (Start s))
  starts_at past [] k h = differ (sym h)
  starts_at past (e ∷ events) zero h =
      let s = kind_starts (binaries past) e.kind h in (s.0, s.1, ap (λ c. Some c) s.2)
  starts_at past (e ∷ events) (suc k) h =
      starts_at (trace_input g (binaries past) (plain e) ∷ past) events k h

  module _ (events : List (TestEventSummary S O)) (k : ℕ)
      (starts : at (starts_attempt t) (acts events) k ≡ true) where
    abbrev inputs : List TraceInput
    inputs = history g (map plain events)

    acts_many : length (acts events) ≡ length events
    acts_many = length-map events (λ e. act_of e.kind)

    many : length inputs ≡ length (acts events)
    many = history-many g [] (map plain events) ∙ length-map events plain ∙ sym acts_many

    pub has_span : HasSpan inputs (Test t) k (unwrap_or (end_of (acts events) t k) (length events))
    has_span =
        let s = starts_at [] events k starts in
        subst (λ n. HasSpan inputs (Test t) k (unwrap_or (end_of (acts events) t k) n)) acts_many
        (span_lasts inputs (acts events) (cuts t) (Test t) many (cuts_at [] events) k s.0 s.1 s.2
        (below (starts_attempt t) (acts events) k starts) (end_of (acts events) t k)
        (end_is (cuts t) (acts events) k))
