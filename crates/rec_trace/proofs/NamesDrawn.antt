-- Which processes and rows an event names.
use Rattle.std.proofs.Common.{◌≡◌, ℕ, suc, ℤ, Bool, true, false, cond, List, []}
use Rattle.std.proofs.Common.{◌∷◌, ◌++◌, map, Option, Some, None, refl, ◌∙◌}
use Rattle.std.specs.Prelude.{option_map, option_to_list, slice_get, ◌-◌, codes}
use Rattle.semver.specs.Parse.{Parts}
use Rattle.serde_json.specs.Data.{Data}
use Rattle.rec_events.specs.declared.events.CoreEventKind.TheVariants.{
  RunStarted,
  StressSubRunStarted,
  SetupScriptStarted,
  SetupScriptSlow,
  TestStarted,
  TestSlow,
  TestRetryStarted,
  TestSkipped,
  RunBeginCancel,
  RunPaused,
  RunContinued,
  StressSubRunFinished,
  RunFinished,
}
use Rattle.rec_events.specs.declared.events.CoreEventKind.{CoreEventKind}
use Rattle.rec_events.specs.declared.events.OutputEventKind.TheVariants.{
  SetupScriptFinished,
  TestAttemptFailedWillRetry,
  TestFinished,
}
use Rattle.rec_events.specs.declared.events.TestEventKindSummary.TheVariants.{Core, Output}
use Rattle.rec_events.specs.declared.instances.OwnedTestInstanceId.{OwnedTestInstanceId}
use Rattle.rec_events.specs.Times.{micros}
use Rattle.rec_trace_events.specs.Args.{failed_attempt_args, finished_test_args}
use Rattle.rec_trace_events.specs.Args.{retry_begin_args, run_begin_args, script_end_args}
use Rattle.rec_trace_events.specs.Args.{slow_script_args, slow_test_args, sub_run_begin_args}
use Rattle.rec_trace_events.specs.Args.{sub_run_end_args, test_begin_args}
use Rattle.rec_trace_events.specs.declared.instants.RunMark.TheVariants.{
  Cancelled,
  Paused,
  Continued,
}
use Rattle.rec_trace_events.specs.declared.rows.Category.TheVariants as categories
use Rattle.rec_trace_events.specs.declared.rows.Row.{Row}
use Rattle.rec_trace_events.specs.RowNames.{run_process_name, script_name, slot_name}
use Rattle.rec_trace_events.specs.TraceEvents.{process_row, run_row, test_counts}
use Rattle.rec_spans.specs.Acts.{act_of}
use Rattle.rec_spans.specs.declared.settings.ChromeTraceGroupBy.{ChromeTraceGroupBy}
use Rattle.rec_spans.specs.declared.spans.Phase.TheVariants.{Begin, End}
use Rattle.rec_spans.specs.declared.spans.Phase.{Phase}
use Rattle.rec_spans.specs.declared.spans.Span.{Span}
use Rattle.rec_spans.specs.declared.spans.SpanKey.TheVariants as keys
use Rattle.rec_spans.specs.History.{TraceState}
use Rattle.rec_spans.specs.Kinds.{act_input, run_span, script_span}
use Rattle.rec_spans.specs.Kinds.{sub_run_span, test_span, trace_input}
use Rattle.rec_spans.specs.Past.{mark, of_key}
use Rattle.rec_spans.specs.Plain.{PlainEvent, PlainKind, PlainOutputKind}
use Rattle.rec_spans.specs.Refusals.{scripts_in, under}
use Rattle.rec_trace.proofs.Marks.{parts-first, parts-of_each, parts-second}
use Rattle.rec_trace.specs.Drawn.Drawn.{Slice, ProcessNamed, RowNamed, Results}
use Rattle.rec_trace.specs.Drawn.Drawn.{RunMarked, Slow, ArrowStarts, ArrowFinishes}
use Rattle.rec_trace.specs.Drawn.{Drawn}
use Rattle.rec_trace.specs.Known.{Known, row_to_name}
use Rattle.rec_trace.specs.Naming.Named.{Process, Thread}
use Rattle.rec_trace.specs.Naming.{all_named, named_by, newly_named}
use Rattle.rec_trace.specs.Table.{arrow_to, bare, closes, counter, drawn, drawn_core}
use Rattle.rec_trace.specs.Table.{drawn_kind, drawn_output, group_of, naming, opens}
use Rattle.rec_trace.specs.Table.{run_marked, run_process, test_process}

-- ---- the parts of the table

module _ (version : Parts) (g : ChromeTraceGroupBy) (state : TraceState) (known : Known)
    (t : ℤ) where
  naming-names : (row : Row) (process name : List ℕ)
      → all_named (naming version g state known t row process name)
      ≡ newly_named known.is_named (Some row)
  naming-names row process name = go (known.is_named (process_row row.pid)) (known.is_named row)
    where
      go : (p q : Bool)
          → all_named
          (cond p [] (ProcessNamed row.pid process ∷ []) ++ cond q [] (RowNamed row name ∷ []))
          ≡ cond p [] (Process row.pid ∷ []) ++ cond q [] (Thread row ∷ [])
      go true true = refl
      go true false = refl
      go false true = refl
      go false false = refl

  bare-names : (p : Bool) (phase : Phase) (spans : List Span)
      → all_named (cond p (bare phase t spans) []) ≡ []
  bare-names true phase spans =
      parts-of_each named_by (λ s. Slice (mark phase t s) None) (λ s. refl) spans
  bare-names false phase spans = refl

  opens-names : (s : Span) (args : Option Data) (arrow : List Drawn) → all_named arrow ≡ []
      → all_named (opens version g state known t s args arrow) ≡ []
  opens-names s args arrow none =
      parts-first named_by arrow (cond state.in_pause (bare End t (s ∷ [])) [])
      (bare-names state.in_pause End (s ∷ []))
      ∙ none

  closes-names : (spans : List Span) (args : Option Data)
      → all_named (closes version g state known t spans args) ≡ []
  closes-names spans args =
      parts-second named_by (cond state.in_pause (bare Begin t spans) [])
      (map (λ s. Slice (mark End t s) args) spans) (bare-names state.in_pause Begin spans)
      ∙ parts-of_each named_by (λ s. Slice (mark End t s) args) (λ s. refl) spans

  -- the row of a mark is named, or that of a span that starts; what follows names nothing
  named-names : (row : Row) (process name : List ℕ) (rest : List Drawn) → all_named rest ≡ []
      → all_named (naming version g state known t row process name ++ rest)
      ≡ newly_named known.is_named (Some row)
  named-names row process name rest none =
      parts-first named_by (naming version g state known t row process name) rest none
      ∙ naming-names row process name

  counted-names : (row : Row) (process name : List ℕ) (s : Span) (args : Option Data)
      (arrow : List Drawn) (tests scripts : ℕ)
      → all_named arrow ≡ []
      → all_named
      (naming version g state known t row process name ++ opens version g state known t s args arrow
      ++ counter version g state known t tests scripts ∷ [])
      ≡ newly_named known.is_named (Some row)
  counted-names row process name s args arrow tests scripts none =
      parts-first named_by (naming version g state known t row process name
      ++ opens version g state known t s args arrow)
      (counter version g state known t tests scripts ∷ []) refl
      ∙ named-names row process name (opens version g state known t s args arrow)
      (opens-names s args arrow none)

  ended-names : (spans : List Span) (args : Option Data) (rest : List Drawn) → all_named rest ≡ []
      → all_named (closes version g state known t spans args ++ rest) ≡ []
  ended-names spans args rest none =
      parts-first named_by (closes version g state known t spans args) rest none
      ∙ closes-names spans args

  arrow-names : (row : Row) (test : OwnedTestInstanceId) (flow : Option ℕ)
      → all_named (option_to_list (option_map (ArrowFinishes test row t) flow)) ≡ []
  arrow-names row test None = refl
  arrow-names row test (Some n) = refl

  -- ---- the table

  abbrev asked : PlainKind → Option Row
  asked kind = row_to_name (act_input g state.binaries t (act_of kind))

  core-names : (kind : CoreEventKind)
      → all_named (drawn_core version g state known t kind)
      ≡ newly_named known.is_named (asked (Core kind))
  core-names (RunStarted run_id profile_name cli_args stress_condition) =
      let args = Some (run_begin_args version run_id profile_name cli_args stress_condition) in
      named-names run_row (run_process_name (Some profile_name)) (codes "run")
      (opens version g state known t run_span args []) (opens-names run_span args [] refl)
  core-names (RunFinished run_id start_time elapsed run_stats outstanding) =
      closes-names (of_key keys.Run state.spans) _
  core-names (RunBeginCancel scripts running reason) =
      named-names run_row (run_process version g state known t) (codes "run")
      (RunMarked (Cancelled reason) (record { tests = running; scripts = scripts }) t ∷ []) refl
  core-names (RunPaused scripts running) =
      parts-second named_by (cond state.in_pause [] (bare End t state.spans))
      (run_marked version g state known t Paused running scripts) (go state.in_pause)
      ∙ named-names run_row (run_process version g state known t) (codes "run")
      (RunMarked Paused (record { tests = running; scripts = scripts }) t ∷ []) refl
    where
      go : (p : Bool) → all_named (cond p [] (bare End t state.spans)) ≡ []
      go true = refl
      go false = bare-names true End state.spans
  core-names (RunContinued scripts running) =
      parts-first named_by (run_marked version g state known t Continued running scripts)
      (cond state.in_pause (bare Begin t state.spans) [])
      (bare-names state.in_pause Begin state.spans)
      ∙ named-names run_row (run_process version g state known t) (codes "run")
      (RunMarked Continued (record { tests = running; scripts = scripts }) t ∷ []) refl
  core-names (TestStarted stress_index test slot_assignment current_stats running command_line) =
      let s = test_span g state.binaries test slot_assignment.global_slot in
      counted-names s.row (test_process g test) (slot_name slot_assignment.global_slot) s
      (Some (test_begin_args test command_line)) [] running state.scripts refl
  core-names (TestRetryStarted stress_index test slot_assignment retry_data running command_line) =
      let s = test_span g state.binaries test slot_assignment.global_slot in
      counted-names s.row (test_process g test) (slot_name slot_assignment.global_slot) s
      (Some (retry_begin_args test retry_data command_line))
      (arrow_to version g state known t test slot_assignment.global_slot) running state.scripts
      (arrow-names s.row test (known.arrow test))
  core-names (TestSlow stress_index test retry_data elapsed will_terminate) =
      parts-of_each named_by (λ s. Slow categories.Test s.row t
      (slow_test_args test stress_index retry_data elapsed will_terminate))
      (λ s. refl) (of_key (keys.Test test) state.spans)
  core-names (TestSkipped stress_index test reason skipped) = refl
  core-names (SetupScriptStarted stress_index index total script_id program args no_capture) =
      let s = script_span index script_id in
      counted-names s.row (codes "setup-scripts") (script_name index) s None [] known.running
      (suc state.scripts) refl
  core-names (SetupScriptSlow stress_index script_id program args elapsed will_terminate) =
      parts-of_each named_by (λ s. Slow categories.SetupScript s.row t
      (slow_script_args script_id stress_index elapsed will_terminate))
      (λ s. refl)
      (option_to_list (slice_get (under script_id (scripts_in state.spans)) 0))
  core-names (StressSubRunStarted progress) =
      let args = Some (sub_run_begin_args progress) in
      named-names sub_run_span.row (run_process version g state known t) (codes "stress sub-runs")
      (opens version g state known t sub_run_span args []) (opens-names sub_run_span args [] refl)
  core-names (StressSubRunFinished progress sub_elapsed sub_stats) =
      closes-names (of_key keys.SubRun state.spans)
      (Some (sub_run_end_args progress sub_elapsed sub_stats))

  output-names : (kind : PlainOutputKind)
      → all_named (drawn_output version g state known t kind)
      ≡ newly_named known.is_named (asked (Output kind))
  output-names (TestAttemptFailedWillRetry stress_index test status delay failure running) =
      let spans = of_key (keys.Test test) state.spans in
      let args = Some (failed_attempt_args test stress_index (group_of version g state known t test)
      status delay) in
      let arrows = map (λ (s : Span). ArrowStarts test s.row t state.next_flow) spans in
      parts-first named_by (closes version g state known t spans args ++ arrows)
      (counter version g state known t running state.scripts ∷ []) refl
      ∙ (ended-names spans args arrows (parts-of_each named_by
      (λ (s : Span). ArrowStarts test s.row t state.next_flow) (λ s. refl) spans))
  output-names (TestFinished stress_index test success failure store_success store_failure flaky
      statuses current_stats running) =
      ended-names (of_key (keys.Test test) state.spans)
      (finished_test_args test stress_index (group_of version g state known t test) statuses)
      (counter version g state known t running state.scripts ∷ Results (test_counts current_stats) t
      ∷ [])
      refl
  output-names
      (SetupScriptFinished stress_index index total script_id program args no_capture status) =
      ended-names (of_key (keys.Script index) state.spans)
      (Some (script_end_args script_id stress_index status))
      (counter version g state known t known.running (state.scripts - 1) ∷ []) refl

  kind-names : (kind : PlainKind)
      → all_named (drawn_kind version g state known t kind)
      ≡ newly_named known.is_named (asked kind)
  kind-names (Core kind) = core-names kind
  kind-names (Output kind) = output-names kind

-- an event names the row that it asks for and the process of it, each where it wasn't named before
pub names-of-drawn : (version : Parts) (g : ChromeTraceGroupBy) (state : TraceState) (known : Known)
    (event : PlainEvent)
    →
    all_named (drawn version g state known event)
    ≡ newly_named known.is_named (row_to_name (trace_input g state.binaries event))
names-of-drawn version g state known event =
    kind-names version g state known (micros event.timestamp) event.kind
