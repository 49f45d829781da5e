-- Which arrows an event starts and finishes.
use Rattle.std.proofs.Common.{◌≡◌, ℕ, suc, ℤ, Bool, true, false, cond, List, []}
use Rattle.std.proofs.Common.{◌∷◌, ◌++◌, map, Option, Some, None, refl, ◌∙◌, ap}
use Rattle.std.specs.Prelude.{option_map, option_to_list, slice_get, ◌-◌, codes}
use Rattle.semver.specs.Parse.{Parts}
use Rattle.serde_json.specs.Data.{Data}
use Rattle.rec_events.specs.declared.events.CoreEventKind.TheVariants.{
  RunStarted,
  StressSubRunStarted,
  SetupScriptStarted,
  SetupScriptSlow,
  TestStarted,
  TestSlow,
  TestRetryStarted,
  TestSkipped,
  RunBeginCancel,
  RunPaused,
  RunContinued,
  StressSubRunFinished,
  RunFinished,
}
use Rattle.rec_events.specs.declared.events.CoreEventKind.{CoreEventKind}
use Rattle.rec_events.specs.declared.events.OutputEventKind.TheVariants.{
  SetupScriptFinished,
  TestAttemptFailedWillRetry,
  TestFinished,
}
use Rattle.rec_events.specs.declared.events.TestEventKindSummary.TheVariants.{Core, Output}
use Rattle.rec_events.specs.declared.instances.OwnedTestInstanceId.{OwnedTestInstanceId}
use Rattle.rec_events.specs.Times.{micros}
use Rattle.rec_trace_events.specs.Args.{failed_attempt_args, finished_test_args}
use Rattle.rec_trace_events.specs.Args.{retry_begin_args, run_begin_args, script_end_args}
use Rattle.rec_trace_events.specs.Args.{slow_script_args, slow_test_args, sub_run_begin_args}
use Rattle.rec_trace_events.specs.Args.{sub_run_end_args, test_begin_args}
use Rattle.rec_trace_events.specs.declared.instants.RunMark.TheVariants.{
  Cancelled,
  Paused,
  Continued,
}
use Rattle.rec_trace_events.specs.declared.instants.RunMark.{RunMark}
use Rattle.rec_trace_events.specs.declared.rows.Category.TheVariants as categories
use Rattle.rec_trace_events.specs.declared.rows.Row.{Row}
use Rattle.rec_trace_events.specs.RowNames.{run_process_name, script_name, slot_name}
use Rattle.rec_trace_events.specs.TraceEvents.{run_row, test_counts}
use Rattle.rec_spans.specs.declared.settings.ChromeTraceGroupBy.{ChromeTraceGroupBy}
use Rattle.rec_spans.specs.declared.spans.Phase.TheVariants.{Begin, End}
use Rattle.rec_spans.specs.declared.spans.Phase.{Phase}
use Rattle.rec_spans.specs.declared.spans.Span.{Span}
use Rattle.rec_spans.specs.declared.spans.SpanKey.TheVariants as keys
use Rattle.rec_spans.specs.History.{TraceState}
use Rattle.rec_spans.specs.Kinds.{run_span, script_span, sub_run_span, test_span}
use Rattle.rec_spans.specs.Past.{mark, of_key}
use Rattle.rec_spans.specs.Plain.{PlainEvent, PlainKind, PlainOutputKind}
use Rattle.rec_spans.specs.Refusals.{scripts_in, under}
use Rattle.rec_trace.proofs.Marks.{parts-first, parts-of_each, parts-of_naming, parts-second}
use Rattle.rec_trace.specs.Arrows.ArrowEnd.{Starts, Finishes}
use Rattle.rec_trace.specs.Arrows.{ArrowEnd, arrow_end, arrow_ends}
use Rattle.rec_trace.specs.Arrows.{core_ends, event_ends, output_ends}
use Rattle.rec_trace.specs.Drawn.Drawn.{Slice, Results, RunMarked, Slow, ArrowStarts, ArrowFinishes}
use Rattle.rec_trace.specs.Drawn.{Drawn}
use Rattle.rec_trace.specs.Known.{Known}
use Rattle.rec_trace.specs.Table.{arrow_to, bare, closes, counter, drawn, drawn_core}
use Rattle.rec_trace.specs.Table.{drawn_kind, drawn_output, group_of, naming, opens}
use Rattle.rec_trace.specs.Table.{run_marked, run_process, test_process}

-- each of these spans starts an arrow
ends-of_starts : (test : OwnedTestInstanceId) (t : ℤ) (flow : ℕ) (spans : List Span)
    → arrow_ends (map (λ s. ArrowStarts test s.row t flow) spans)
    ≡ map (λ s. Starts test flow) spans
ends-of_starts test t flow [] = refl
ends-of_starts test t flow (s ∷ spans) =
    ap (λ (ends : List ArrowEnd). Starts test flow ∷ ends) (ends-of_starts test t flow spans)

-- ---- the parts of the table

module _ (version : Parts) (g : ChromeTraceGroupBy) (state : TraceState) (known : Known)
    (t : ℤ) where
  naming-ends : (row : Row) (process name : List ℕ)
      → arrow_ends (naming version g state known t row process name) ≡ []
  naming-ends row process name =
      parts-of_naming arrow_end (λ pid n. refl) (λ r n. refl)
      version g state known t row process name

  opens-ends : (s : Span) (args : Option Data) (arrow : List Drawn)
      → arrow_ends (opens version g state known t s args arrow) ≡ arrow_ends arrow
  opens-ends s args arrow =
      parts-first arrow_end arrow (cond state.in_pause (bare End t (s ∷ [])) []) (go state.in_pause)
    where
      go : (p : Bool) → arrow_ends (cond p (bare End t (s ∷ [])) []) ≡ []
      go true = refl
      go false = refl

  bare-ends : (p : Bool) (phase : Phase) (spans : List Span)
      → arrow_ends (cond p (bare phase t spans) []) ≡ []
  bare-ends true phase spans =
      parts-of_each arrow_end (λ s. Slice (mark phase t s) None) (λ s. refl) spans
  bare-ends false phase spans = refl

  closes-ends : (spans : List Span) (args : Option Data)
      → arrow_ends (closes version g state known t spans args) ≡ []
  closes-ends spans args =
      parts-second arrow_end (cond state.in_pause (bare Begin t spans) [])
      (map (λ s. Slice (mark End t s) args) spans) (bare-ends state.in_pause Begin spans)
      ∙ parts-of_each arrow_end (λ s. Slice (mark End t s) args) (λ s. refl) spans

  run_marked-ends : (what : RunMark) (tests scripts : ℕ)
      → arrow_ends (run_marked version g state known t what tests scripts) ≡ []
  run_marked-ends what tests scripts =
      parts-first arrow_end
      (naming version g state known t run_row (run_process version g state known t) (codes "run"))
      (RunMarked what (record { tests = tests; scripts = scripts }) t ∷ []) refl
      ∙ naming-ends run_row (run_process version g state known t) (codes "run")

  -- a span starts on a row that is named
  starts-ends : (row : Row) (process name : List ℕ) (s : Span) (args : Option Data)
      (arrow : List Drawn)
      → arrow_ends (naming version g state known t row process name
      ++ opens version g state known t s args arrow)
      ≡ arrow_ends arrow
  starts-ends row process name s args arrow =
      parts-second arrow_end (naming version g state known t row process name)
      (opens version g state known t s args arrow) (naming-ends row process name)
      ∙ opens-ends s args arrow

  -- a span starts on a row that is named, and what runs is counted
  counted-ends : (row : Row) (process name : List ℕ) (s : Span) (args : Option Data)
      (arrow : List Drawn) (tests scripts : ℕ)
      → arrow_ends
      (naming version g state known t row process name ++ opens version g state known t s args arrow
      ++ counter version g state known t tests scripts ∷ [])
      ≡ arrow_ends arrow
  counted-ends row process name s args arrow tests scripts =
      parts-first arrow_end (naming version g state known t row process name
      ++ opens version g state known t s args arrow)
      (counter version g state known t tests scripts ∷ []) refl
      ∙ starts-ends row process name s args arrow

  -- spans end, and what follows has no arrows
  ended-ends : (spans : List Span) (args : Option Data) (rest : List Drawn) → arrow_ends rest ≡ []
      → arrow_ends (closes version g state known t spans args ++ rest) ≡ []
  ended-ends spans args rest none =
      parts-first arrow_end (closes version g state known t spans args) rest none
      ∙ closes-ends spans args

  -- ---- the table

  core-ends : (kind : CoreEventKind)
      → arrow_ends (drawn_core version g state known t kind) ≡ core_ends known.arrow kind
  core-ends (RunStarted run_id profile_name cli_args stress_condition) =
      starts-ends run_row (run_process_name (Some profile_name)) (codes "run") run_span
      (Some (run_begin_args version run_id profile_name cli_args stress_condition)) []
  core-ends (RunFinished run_id start_time elapsed run_stats outstanding) =
      closes-ends (of_key keys.Run state.spans) _
  core-ends (RunBeginCancel scripts running reason) =
      run_marked-ends (Cancelled reason) running scripts
  core-ends (RunPaused scripts running) =
      parts-first arrow_end (cond state.in_pause [] (bare End t state.spans))
      (run_marked version g state known t Paused running scripts)
      (run_marked-ends Paused running scripts)
      ∙ go state.in_pause
    where
      go : (p : Bool) → arrow_ends (cond p [] (bare End t state.spans)) ≡ []
      go true = refl
      go false = bare-ends true End state.spans
  core-ends (RunContinued scripts running) =
      parts-second arrow_end (run_marked version g state known t Continued running scripts)
      (cond state.in_pause (bare Begin t state.spans) [])
      (run_marked-ends Continued running scripts)
      ∙ bare-ends state.in_pause Begin state.spans
  core-ends (TestStarted stress_index test slot_assignment current_stats running command_line) =
      let s = test_span g state.binaries test slot_assignment.global_slot in
      counted-ends s.row (test_process g test) (slot_name slot_assignment.global_slot) s
      (Some (test_begin_args test command_line)) [] running state.scripts
  core-ends (TestRetryStarted stress_index test slot_assignment retry_data running command_line) =
      let s = test_span g state.binaries test slot_assignment.global_slot in
      counted-ends s.row (test_process g test) (slot_name slot_assignment.global_slot) s
      (Some (retry_begin_args test retry_data command_line))
      (arrow_to version g state known t test slot_assignment.global_slot) running state.scripts
      ∙ go s.row (known.arrow test)
    where
      go : (row : Row) (flow : Option ℕ)
          → arrow_ends (option_to_list (option_map (ArrowFinishes test row t) flow))
          ≡ option_to_list (option_map (Finishes test) flow)
      go row None = refl
      go row (Some n) = refl
  core-ends (TestSlow stress_index test retry_data elapsed will_terminate) =
      parts-of_each arrow_end (λ s. Slow categories.Test s.row t
      (slow_test_args test stress_index retry_data elapsed will_terminate))
      (λ s. refl) (of_key (keys.Test test) state.spans)
  core-ends (TestSkipped stress_index test reason skipped) = refl
  core-ends (SetupScriptStarted stress_index index total script_id program args no_capture) =
      let s = script_span index script_id in
      counted-ends s.row (codes "setup-scripts") (script_name index) s None [] known.running
      (suc state.scripts)
  core-ends (SetupScriptSlow stress_index script_id program args elapsed will_terminate) =
      parts-of_each arrow_end (λ s. Slow categories.SetupScript s.row t
      (slow_script_args script_id stress_index elapsed will_terminate))
      (λ s. refl)
      (option_to_list (slice_get (under script_id (scripts_in state.spans)) 0))
  core-ends (StressSubRunStarted progress) =
      starts-ends sub_run_span.row (run_process version g state known t) (codes "stress sub-runs")
      sub_run_span (Some (sub_run_begin_args progress)) []
  core-ends (StressSubRunFinished progress sub_elapsed sub_stats) =
      closes-ends (of_key keys.SubRun state.spans)
      (Some (sub_run_end_args progress sub_elapsed sub_stats))

  output-ends : (kind : PlainOutputKind)
      → arrow_ends (drawn_output version g state known t kind)
      ≡ output_ends state.spans state.next_flow kind
  output-ends (TestAttemptFailedWillRetry stress_index test status delay failure running) =
      let spans = of_key (keys.Test test) state.spans in
      let args = Some (failed_attempt_args test stress_index (group_of version g state known t test)
      status delay) in
      let arrows = map (λ (s : Span). ArrowStarts test s.row t state.next_flow) spans in
      parts-first arrow_end (closes version g state known t spans args ++ arrows)
      (counter version g state known t running state.scripts ∷ []) refl
      ∙ (parts-second arrow_end (closes version g state known t spans args) arrows
      (closes-ends spans args) ∙ ends-of_starts test t state.next_flow spans)
  output-ends (TestFinished stress_index test success failure store_success store_failure flaky
      statuses current_stats running) =
      ended-ends (of_key (keys.Test test) state.spans)
      (finished_test_args test stress_index (group_of version g state known t test) statuses)
      (counter version g state known t running state.scripts ∷ Results (test_counts current_stats) t
      ∷ [])
      refl
  output-ends
      (SetupScriptFinished stress_index index total script_id program args no_capture status) =
      ended-ends (of_key (keys.Script index) state.spans)
      (Some (script_end_args script_id stress_index status))
      (counter version g state known t known.running (state.scripts - 1) ∷ []) refl

  kind-ends : (kind : PlainKind)
      → arrow_ends (drawn_kind version g state known t kind)
      ≡ event_ends state.spans state.next_flow known.arrow kind
  kind-ends (Core kind) = core-ends kind
  kind-ends (Output kind) = output-ends kind

-- the ends of arrows that an event draws
pub ends-of-drawn : (version : Parts) (g : ChromeTraceGroupBy) (state : TraceState) (known : Known)
    (event : PlainEvent)
    →
    arrow_ends (drawn version g state known event)
    ≡ event_ends state.spans state.next_flow known.arrow event.kind
ends-of-drawn version g state known event =
    kind-ends version g state known (micros event.timestamp) event.kind
