-- The begins and ends of slices that are drawn are the marks of the events.
use Rattle.std.proofs.Common.{◌≡◌, ℕ, suc, ◌-◌, ℤ, Bool, true, false, cond, List}
use Rattle.std.proofs.Common.{[], ◌∷◌, ◌++◌, map, Option, Some, None, refl, ◌∙◌, ap}
use Rattle.std.proofs.lemmas.List.Concat.{flat_map-append}
use Rattle.std.proofs.lemmas.List.{append-nil}
use Rattle.std.specs.List.{flat_map}
use Rattle.std.specs.Prelude.{codes, option_map, option_to_list, slice_get}
use Rattle.semver.specs.Parse.{Parts}
use Rattle.serde_json.specs.Data.{Data}
use Rattle.rec_events.specs.declared.events.CoreEventKind.TheVariants.{
  RunStarted,
  StressSubRunStarted,
  SetupScriptStarted,
  SetupScriptSlow,
  TestStarted,
  TestSlow,
  TestRetryStarted,
  TestSkipped,
  RunBeginCancel,
  RunPaused,
  RunContinued,
  StressSubRunFinished,
  RunFinished,
}
use Rattle.rec_events.specs.declared.events.CoreEventKind.{CoreEventKind}
use Rattle.rec_events.specs.declared.events.OutputEventKind.TheVariants.{
  SetupScriptFinished,
  TestAttemptFailedWillRetry,
  TestFinished,
}
use Rattle.rec_events.specs.declared.events.TestEventKindSummary.TheVariants.{Core, Output}
use Rattle.rec_events.specs.declared.instances.OwnedTestInstanceId.{OwnedTestInstanceId}
use Rattle.rec_events.specs.Times.{micros}
use Rattle.rec_trace_events.specs.Args.{failed_attempt_args, finished_test_args}
use Rattle.rec_trace_events.specs.Args.{retry_begin_args, run_begin_args, script_end_args}
use Rattle.rec_trace_events.specs.Args.{slow_script_args, slow_test_args, sub_run_begin_args}
use Rattle.rec_trace_events.specs.Args.{sub_run_end_args, test_begin_args}
use Rattle.rec_trace_events.specs.declared.instants.RunMark.TheVariants.{
  Cancelled,
  Paused,
  Continued,
}
use Rattle.rec_trace_events.specs.declared.instants.RunMark.{RunMark}
use Rattle.rec_trace_events.specs.declared.rows.Category.TheVariants as categories
use Rattle.rec_trace_events.specs.declared.rows.Row.{Row}
use Rattle.rec_trace_events.specs.RowNames.{run_process_name, script_name, slot_name}
use Rattle.rec_trace_events.specs.TraceEvents.{process_row, run_row, test_counts}
use Rattle.rec_spans.specs.Acts.{act_of}
use Rattle.rec_spans.specs.declared.settings.ChromeTraceGroupBy.{ChromeTraceGroupBy}
use Rattle.rec_spans.specs.declared.spans.Phase.TheVariants.{Begin, End}
use Rattle.rec_spans.specs.declared.spans.Phase.{Phase}
use Rattle.rec_spans.specs.declared.spans.Span.{Span}
use Rattle.rec_spans.specs.declared.spans.SpanKey.TheVariants as keys
use Rattle.rec_spans.specs.History.{TraceState, marks_after, next_marks, state_after, trace_marks}
use Rattle.rec_spans.specs.Kinds.{change_of, history, history_after, run_span}
use Rattle.rec_spans.specs.Kinds.{script_span, sub_run_span, test_span, trace_input}
use Rattle.rec_spans.specs.Past.Change.{Start}
use Rattle.rec_spans.specs.Past.{Mark, TraceInput, binaries, change_marks, mark, marks, of_key}
use Rattle.rec_spans.specs.Plain.{PlainEvent, PlainKind, PlainOutputKind}
use Rattle.rec_spans.specs.Refusals.{scripts_in, under}
use Rattle.rec_trace.specs.Drawn.Drawn.{Slice, ProcessNamed, RowNamed, Results}
use Rattle.rec_trace.specs.Drawn.Drawn.{RunMarked, Slow, ArrowStarts, ArrowFinishes}
use Rattle.rec_trace.specs.Drawn.{Drawn, drawn_mark, marks_of}
use Rattle.rec_trace.specs.Histories.{drawn_after, known_after_event, trace_drawn}
use Rattle.rec_trace.specs.Known.{Known, nothing_known}
use Rattle.rec_trace.specs.Table.{arrow_to, bare, closes, counter, drawn, drawn_core}
use Rattle.rec_trace.specs.Table.{drawn_kind, drawn_output, group_of, naming, opens}
use Rattle.rec_trace.specs.Table.{run_marked, run_process, test_process}

-- ---- parts of lists of what is drawn

module _ {X : Type 0} (f : Drawn → List X) where
  -- two lists of which the first, or the second, has no part
  pub parts-second : (xs ys : List Drawn) → flat_map f xs ≡ []
      → flat_map f (xs ++ ys) ≡ flat_map f ys
  parts-second xs ys none = flat_map-append f xs ys ∙ ap (λ (zs : List X). zs ++ flat_map f ys) none

  pub parts-first : (xs ys : List Drawn) → flat_map f ys ≡ []
      → flat_map f (xs ++ ys) ≡ flat_map f xs
  parts-first xs ys none =
      flat_map-append f xs ys
      ∙ (ap (λ (zs : List X). flat_map f xs ++ zs) none ∙ append-nil (flat_map f xs))

  -- what has no part for any span has none for these
  pub parts-of_each : (draw : Span → Drawn) → ((s : Span) → f (draw s) ≡ []) → (spans : List Span)
      → flat_map f (map draw spans) ≡ []
  parts-of_each draw none [] = refl
  parts-of_each draw none (s ∷ spans) =
      ap (λ (zs : List X). zs ++ flat_map f (map draw spans)) (none s)
      ∙ parts-of_each draw none spans

  -- names have no part
  pub parts-of_naming : ((pid : ℕ) (name : List ℕ) → f (ProcessNamed pid name) ≡ [])
      → ((row : Row) (name : List ℕ) → f (RowNamed row name) ≡ [])
      → (version : Parts) (g : ChromeTraceGroupBy) (state : TraceState) (known : Known) (t : ℤ)
      (row : Row) (process name : List ℕ)
      → flat_map f (naming version g state known t row process name) ≡ []
  parts-of_naming no_process no_row version g state known t row process name =
      go (known.is_named (process_row row.pid)) (known.is_named row)
    where
      go : (p q : Bool)
          → flat_map f
          (cond p [] (ProcessNamed row.pid process ∷ []) ++ cond q [] (RowNamed row name ∷ []))
          ≡ []
      go true true = refl
      go true false = ap (λ (zs : List X). zs ++ []) (no_row row name)
      go false true = ap (λ (zs : List X). zs ++ []) (no_process row.pid process)
      go false false = rw (no_process row.pid process, no_row row name) refl

-- the begins, or the ends, of spans are their marks
pub marks-of_slices : (p : Phase) (t : ℤ) (args : Option Data) (spans : List Span)
    → marks_of (map (λ s. Slice (mark p t s) args) spans) ≡ marks p t spans
marks-of_slices p t args [] = refl
marks-of_slices p t args (s ∷ spans) =
    ap (λ (ms : List Mark). mark p t s ∷ ms) (marks-of_slices p t args spans)

-- ---- the parts of the table

module _ (version : Parts) (g : ChromeTraceGroupBy) (state : TraceState) (known : Known)
    (t : ℤ) where
  abbrev marks_at : PlainKind → List Mark
  marks_at kind =
      change_marks state.in_pause state.spans t (change_of g state.binaries (act_of kind))

  naming-marks : (row : Row) (process name : List ℕ)
      → marks_of (naming version g state known t row process name) ≡ []
  naming-marks row process name =
      parts-of_naming drawn_mark (λ pid n. refl) (λ r n. refl)
      version g state known t row process name

  opens-marks : (s : Span) (args : Option Data) (arrow : List Drawn) → marks_of arrow ≡ []
      → marks_of (opens version g state known t s args arrow)
      ≡ change_marks state.in_pause state.spans t (Start s)
  opens-marks s args arrow none =
      ap (λ (ms : List Mark). mark Begin t s ∷ ms)
      (parts-second drawn_mark arrow (cond state.in_pause (bare End t (s ∷ [])) []) none
      ∙ go state.in_pause)
    where
      go : (p : Bool)
          → marks_of (cond p (bare End t (s ∷ [])) []) ≡ cond p (marks End t (s ∷ [])) []
      go true = refl
      go false = refl

  closes-marks : (spans : List Span) (args : Option Data)
      → marks_of (closes version g state known t spans args)
      ≡ cond state.in_pause (marks Begin t spans) [] ++ marks End t spans
  closes-marks spans args = go state.in_pause
    where
      go : (p : Bool)
          → marks_of (cond p (bare Begin t spans) [] ++ map (λ s. Slice (mark End t s) args) spans)
          ≡ cond p (marks Begin t spans) [] ++ marks End t spans
      go true =
          flat_map-append drawn_mark (bare Begin t spans)
          (map (λ s. Slice (mark End t s) args) spans)
          ∙ rw (marks-of_slices Begin t None spans, marks-of_slices End t args spans) refl
      go false = marks-of_slices End t args spans

  run_marked-marks : (what : RunMark) (tests scripts : ℕ)
      → marks_of (run_marked version g state known t what tests scripts) ≡ []
  run_marked-marks what tests scripts =
      parts-first drawn_mark
      (naming version g state known t run_row (run_process version g state known t) (codes "run"))
      (RunMarked what (record { tests = tests; scripts = scripts }) t ∷ []) refl
      ∙ naming-marks run_row (run_process version g state known t) (codes "run")

  arrow_to-marks : (test : OwnedTestInstanceId) (slot : ℕ)
      → marks_of (arrow_to version g state known t test slot) ≡ []
  arrow_to-marks test slot = go (known.arrow test)
    where
      go : (flow : Option ℕ)
          → marks_of (option_to_list
          (option_map (ArrowFinishes test (test_span g state.binaries test slot).row t) flow))
          ≡ []
      go None = refl
      go (Some n) = refl

  -- a span starts on a row that is named
  starts-marks : (row : Row) (process name : List ℕ) (s : Span) (args : Option Data)
      (arrow : List Drawn)
      → marks_of arrow ≡ []
      → marks_of (naming version g state known t row process name
      ++ opens version g state known t s args arrow)
      ≡ change_marks state.in_pause state.spans t (Start s)
  starts-marks row process name s args arrow none =
      parts-second drawn_mark (naming version g state known t row process name)
      (opens version g state known t s args arrow) (naming-marks row process name)
      ∙ opens-marks s args arrow none

  -- a span starts on a row that is named, and what runs is counted
  counted-marks : (row : Row) (process name : List ℕ) (s : Span) (args : Option Data)
      (arrow : List Drawn) (tests scripts : ℕ)
      → marks_of arrow ≡ []
      → marks_of
      (naming version g state known t row process name ++ opens version g state known t s args arrow
      ++ counter version g state known t tests scripts ∷ [])
      ≡ change_marks state.in_pause state.spans t (Start s)
  counted-marks row process name s args arrow tests scripts none =
      parts-first drawn_mark (naming version g state known t row process name
      ++ opens version g state known t s args arrow)
      (counter version g state known t tests scripts ∷ []) refl
      ∙ starts-marks row process name s args arrow none

  -- spans end, and what follows has no marks
  ended-marks : (spans : List Span) (args : Option Data) (rest : List Drawn) → marks_of rest ≡ []
      → marks_of (closes version g state known t spans args ++ rest)
      ≡ cond state.in_pause (marks Begin t spans) [] ++ marks End t spans
  ended-marks spans args rest none =
      parts-first drawn_mark (closes version g state known t spans args) rest none
      ∙ closes-marks spans args

  -- ---- the table

  core-marks : (kind : CoreEventKind)
      → marks_of (drawn_core version g state known t kind) ≡ marks_at (Core kind)
  core-marks (RunStarted run_id profile_name cli_args stress_condition) =
      starts-marks run_row (run_process_name (Some profile_name)) (codes "run") run_span
      (Some (run_begin_args version run_id profile_name cli_args stress_condition)) [] refl
  core-marks (RunFinished run_id start_time elapsed run_stats outstanding) =
      closes-marks (of_key keys.Run state.spans) _
  core-marks (RunBeginCancel scripts running reason) =
      run_marked-marks (Cancelled reason) running scripts
  core-marks (RunPaused scripts running) =
      parts-first drawn_mark (cond state.in_pause [] (bare End t state.spans))
      (run_marked version g state known t Paused running scripts)
      (run_marked-marks Paused running scripts)
      ∙ go state.in_pause
    where
      go : (p : Bool)
          → marks_of (cond p [] (bare End t state.spans)) ≡ cond p [] (marks End t state.spans)
      go true = refl
      go false = marks-of_slices End t None state.spans
  core-marks (RunContinued scripts running) =
      parts-second drawn_mark (run_marked version g state known t Continued running scripts)
      (cond state.in_pause (bare Begin t state.spans) [])
      (run_marked-marks Continued running scripts)
      ∙ go state.in_pause
    where
      go : (p : Bool)
          → marks_of (cond p (bare Begin t state.spans) []) ≡ cond p (marks Begin t state.spans) []
      go true = marks-of_slices Begin t None state.spans
      go false = refl
  core-marks (TestStarted stress_index test slot_assignment current_stats running command_line) =
      let s = test_span g state.binaries test slot_assignment.global_slot in
      counted-marks s.row (test_process g test) (slot_name slot_assignment.global_slot) s
      (Some (test_begin_args test command_line)) [] running state.scripts refl
  core-marks (TestRetryStarted stress_index test slot_assignment retry_data running command_line) =
      let s = test_span g state.binaries test slot_assignment.global_slot in
      counted-marks s.row (test_process g test) (slot_name slot_assignment.global_slot) s
      (Some (retry_begin_args test retry_data command_line))
      (arrow_to version g state known t test slot_assignment.global_slot) running state.scripts
      (arrow_to-marks test slot_assignment.global_slot)
  core-marks (TestSlow stress_index test retry_data elapsed will_terminate) =
      parts-of_each drawn_mark (λ s. Slow categories.Test s.row t
      (slow_test_args test stress_index retry_data elapsed will_terminate))
      (λ s. refl) (of_key (keys.Test test) state.spans)
  core-marks (TestSkipped stress_index test reason skipped) = refl
  core-marks (SetupScriptStarted stress_index index total script_id program args no_capture) =
      let s = script_span index script_id in
      counted-marks s.row (codes "setup-scripts") (script_name index) s None [] known.running
      (suc state.scripts) refl
  core-marks (SetupScriptSlow stress_index script_id program args elapsed will_terminate) =
      parts-of_each drawn_mark (λ s. Slow categories.SetupScript s.row t
      (slow_script_args script_id stress_index elapsed will_terminate))
      (λ s. refl)
      (option_to_list (slice_get (under script_id (scripts_in state.spans)) 0))
  core-marks (StressSubRunStarted progress) =
      starts-marks sub_run_span.row (run_process version g state known t) (codes "stress sub-runs")
      sub_run_span (Some (sub_run_begin_args progress)) [] refl
  core-marks (StressSubRunFinished progress sub_elapsed sub_stats) =
      closes-marks (of_key keys.SubRun state.spans)
      (Some (sub_run_end_args progress sub_elapsed sub_stats))

  output-marks : (kind : PlainOutputKind)
      → marks_of (drawn_output version g state known t kind) ≡ marks_at (Output kind)
  output-marks (TestAttemptFailedWillRetry stress_index test status delay failure running) =
      let spans = of_key (keys.Test test) state.spans in
      let args = Some (failed_attempt_args test stress_index (group_of version g state known t test)
      status delay) in
      let arrows = map (λ (s : Span). ArrowStarts test s.row t state.next_flow) spans in
      parts-first drawn_mark (closes version g state known t spans args ++ arrows)
      (counter version g state known t running state.scripts ∷ []) refl
      ∙ ended-marks spans args arrows
      (parts-of_each drawn_mark (λ s. ArrowStarts test s.row t state.next_flow) (λ s. refl) spans)
  output-marks (TestFinished stress_index test success failure store_success store_failure flaky
      statuses current_stats running) =
      ended-marks (of_key (keys.Test test) state.spans)
      (finished_test_args test stress_index (group_of version g state known t test) statuses)
      (counter version g state known t running state.scripts ∷ Results (test_counts current_stats) t
      ∷ [])
      refl
  output-marks
      (SetupScriptFinished stress_index index total script_id program args no_capture status) =
      ended-marks (of_key (keys.Script index) state.spans)
      (Some (script_end_args script_id stress_index status))
      (counter version g state known t known.running (state.scripts - 1) ∷ []) refl

  kind-marks : (kind : PlainKind)
      → marks_of (drawn_kind version g state known t kind) ≡ marks_at kind
  kind-marks (Core kind) = core-marks kind
  kind-marks (Output kind) = output-marks kind

-- the begins and ends that an event draws are its marks
pub marks-of-drawn : (version : Parts) (g : ChromeTraceGroupBy) (state : TraceState) (known : Known)
    (event : PlainEvent)
    →
    marks_of (drawn version g state known event)
    ≡ next_marks state (trace_input g state.binaries event)
marks-of-drawn version g state known event =
    kind-marks version g state known (micros event.timestamp) event.kind

-- ---- histories

marks-of-drawn_after : (version : Parts) (g : ChromeTraceGroupBy) (past : List TraceInput)
    (known : Known) (events : List PlainEvent)
    →
    marks_of (drawn_after version g past known events)
    ≡ marks_after past (history_after g past events)
marks-of-drawn_after version g past known [] = refl
marks-of-drawn_after version g past known (event ∷ events) =
    let input = trace_input g (binaries past) event in
    let known' = known_after_event g past event known in
    flat_map-append drawn_mark (drawn version g (state_after past) known event)
    (drawn_after version g (input ∷ past) known' events)
    ∙ rw (
      marks-of-drawn version g (state_after past) known event,
      marks-of-drawn_after version g (input ∷ past) known' events,
    ) refl

-- the begins and ends that a history draws are its marks
pub marks-of-trace : (version : Parts) (g : ChromeTraceGroupBy) (events : List PlainEvent)
    → marks_of (trace_drawn version g events) ≡ trace_marks (history g events)
marks-of-trace version g events = marks-of-drawn_after version g [] nothing_known events
