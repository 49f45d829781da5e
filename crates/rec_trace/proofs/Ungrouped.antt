-- Both groupings draw the same of an event but for what the grouping decides.
use Rattle.std.proofs.Common.{◌≡◌, ℕ, suc, ◌-◌, ℤ, Bool, true, false, cond, List, []}
use Rattle.std.proofs.Common.{◌∷◌, ◌++◌, map, Option, Some, None, refl, sym, ◌∙◌, ap}
use Rattle.std.proofs.lemmas.List.Concat.{flat_map-append}
use Rattle.std.specs.Option.{unwrap_or}
use Rattle.std.specs.Prelude.{codes, option_map, option_to_list, slice_get}
use Rattle.semver.specs.Parse.{Parts}
use Rattle.serde_json.specs.Data.{Data}
use Rattle.rec_events.specs.declared.events.CoreEventKind.TheVariants.{
  RunStarted,
  StressSubRunStarted,
  SetupScriptStarted,
  SetupScriptSlow,
  TestStarted,
  TestSlow,
  TestRetryStarted,
  TestSkipped,
  RunBeginCancel,
  RunPaused,
  RunContinued,
  StressSubRunFinished,
  RunFinished,
}
use Rattle.rec_events.specs.declared.events.CoreEventKind.{CoreEventKind}
use Rattle.rec_events.specs.declared.events.OutputEventKind.TheVariants.{
  SetupScriptFinished,
  TestAttemptFailedWillRetry,
  TestFinished,
}
use Rattle.rec_events.specs.declared.events.TestEventKindSummary.TheVariants.{Core, Output}
use Rattle.rec_events.specs.declared.groups.TestGroup.{TestGroup}
use Rattle.rec_events.specs.declared.instances.OwnedTestInstanceId.{OwnedTestInstanceId}
use Rattle.rec_trace_events.specs.Args.{failed_attempt_args, finished_test_args}
use Rattle.rec_trace_events.specs.Args.{retry_begin_args, run_begin_args, run_end_args}
use Rattle.rec_trace_events.specs.Args.{script_end_args, slow_script_args, slow_test_args}
use Rattle.rec_trace_events.specs.Args.{sub_run_begin_args, sub_run_end_args, test_begin_args}
use Rattle.rec_trace_events.specs.declared.instants.RunMark.TheVariants.{
  Cancelled,
  Paused,
  Continued,
}
use Rattle.rec_trace_events.specs.declared.instants.RunMark.{RunMark}
use Rattle.rec_trace_events.specs.declared.rows.Category.TheVariants as categories
use Rattle.rec_trace_events.specs.declared.rows.Row.{Row}
use Rattle.rec_trace_events.specs.RowNames.{run_process_name, script_name, slot_name}
use Rattle.rec_trace_events.specs.TraceEvents.{run_row, test_counts}
use Rattle.rec_spans.proofs.Groupings.{map-of_key, same-scripts, tid-ungrouped}
use Rattle.rec_spans.specs.declared.settings.ChromeTraceGroupBy.TheVariants.{Binary, Slot}
use Rattle.rec_spans.specs.declared.spans.Phase.TheVariants.{Begin, End}
use Rattle.rec_spans.specs.declared.spans.Phase.{Phase}
use Rattle.rec_spans.specs.declared.spans.Span.{Span}
use Rattle.rec_spans.specs.declared.spans.SpanKey.TheVariants as keys
use Rattle.rec_spans.specs.declared.spans.SpanKey.{SpanKey}
use Rattle.rec_spans.specs.Groupings.{ungrouped}
use Rattle.rec_spans.specs.History.{TraceState}
use Rattle.rec_spans.specs.Kinds.{run_span, script_span, sub_run_span, test_span}
use Rattle.rec_spans.specs.Past.{mark, of_key}
use Rattle.rec_spans.specs.Plain.{PlainKind, PlainOutputKind}
use Rattle.rec_spans.specs.Refusals.{scripts_in, under}
use Rattle.rec_trace.proofs.Marks.{parts-of_naming}
use Rattle.rec_trace.specs.declared.run_start.RunStart.{RunStart}
use Rattle.rec_trace.specs.Drawn.Drawn.{Slice, Results, RunMarked, Slow, ArrowStarts, ArrowFinishes}
use Rattle.rec_trace.specs.Drawn.{Drawn}
use Rattle.rec_trace.specs.Groupings.{all_ungrouped, ungrouped_drawn, ungrouped_row}
use Rattle.rec_trace.specs.Known.{Known}
use Rattle.rec_trace.specs.Table.{arrow_to, bare, closes, counter, drawn_core}
use Rattle.rec_trace.specs.Table.{drawn_kind, drawn_output, attempt_starts, group_of}
use Rattle.rec_trace.specs.Table.{naming, opens, run_marked, run_process, test_process}

-- ---- lists of what is drawn

-- two lists that show the same, each after one that shows the same
both : (xs ys xs' ys' : List Drawn) → all_ungrouped xs ≡ all_ungrouped xs'
    → all_ungrouped ys ≡ all_ungrouped ys' → all_ungrouped (xs ++ ys) ≡ all_ungrouped (xs' ++ ys')
both xs ys xs' ys' first then =
    flat_map-append ungrouped_drawn xs ys
    ∙ (ap (λ (zs : List Drawn). zs ++ all_ungrouped ys) first
    ∙ (ap (λ (zs : List Drawn). all_ungrouped xs' ++ zs) then
    ∙ sym (flat_map-append ungrouped_drawn xs' ys')))

-- what is drawn of spans, where it shows nothing that the grouping decides
each-ungrouped : (draw shown : Span → Drawn)
    → ((s : Span) → ungrouped_drawn (draw s) ≡ shown (ungrouped s) ∷ []) → (spans : List Span)
    → all_ungrouped (map draw spans) ≡ map shown (map ungrouped spans)
each-ungrouped draw shown is [] = refl
each-ungrouped draw shown is (s ∷ spans) =
    ap (λ (zs : List Drawn). zs ++ all_ungrouped (map draw spans)) (is s)
    ∙ ap (λ (zs : List Drawn). shown (ungrouped s) ∷ zs) (each-ungrouped draw shown is spans)

each-alike : (draw shown : Span → Drawn)
    → ((s : Span) → ungrouped_drawn (draw s) ≡ shown (ungrouped s) ∷ []) → (zs ws : List Span)
    → map ungrouped zs ≡ map ungrouped ws
    → all_ungrouped (map draw zs) ≡ all_ungrouped (map draw ws)
each-alike draw shown is zs ws same =
    each-ungrouped draw shown is zs ∙ (ap (map shown) same ∙ sym (each-ungrouped draw shown is ws))

slices-alike : (phase : Phase) (t : ℤ) (args : Option Data) (zs ws : List Span)
    → map ungrouped zs ≡ map ungrouped ws
    → all_ungrouped (map (λ s. Slice (mark phase t s) args) zs)
    ≡ all_ungrouped (map (λ s. Slice (mark phase t s) args) ws)
slices-alike phase t args zs ws same =
    each-alike (λ s. Slice (mark phase t s) args) (λ s. Slice (mark phase t s) args) (λ s. refl)
    zs ws same

bare-alike : (p : Bool) (phase : Phase) (t : ℤ) (zs ws : List Span)
    → map ungrouped zs ≡ map ungrouped ws
    → all_ungrouped (cond p (bare phase t zs) []) ≡ all_ungrouped (cond p (bare phase t ws) [])
bare-alike true phase t zs ws same = slices-alike phase t None zs ws same
bare-alike false phase t zs ws same = refl

-- ---- the table, of two states and of what is known that agree but for what the grouping decides

module _ (version : Parts) (p : Bool) (i j : ℕ) (xs ys : List Span)
    (seen others : List (List ℕ × ℕ)) (scripts flow : ℕ) (named given : Row → Bool) (tests : ℕ)
    (last_run : Option RunStart) (group : OwnedTestInstanceId → Option TestGroup)
    (arrow : OwnedTestInstanceId → Option ℕ) (t : ℤ)
    (same : map ungrouped xs ≡ map ungrouped ys) where
  abbrev a : TraceState
  a = record {
    number = i;
    in_pause = p;
    spans = xs;
    binaries = seen;
    scripts = scripts;
    next_flow = flow;
  }

  abbrev b : TraceState
  b = record {
    number = j;
    in_pause = p;
    spans = ys;
    binaries = others;
    scripts = scripts;
    next_flow = flow;
  }

  abbrev k : Known
  k = record {
    is_named = named;
    running = tests;
    last_run = last_run;
    group = group;
    arrow = arrow;
  }

  abbrev l : Known
  l = record {
    is_named = given;
    running = tests;
    last_run = last_run;
    group = group;
    arrow = arrow;
  }

  same-of_key : (key : SpanKey) → map ungrouped (of_key key xs) ≡ map ungrouped (of_key key ys)
  same-of_key key = map-of_key key xs ∙ (ap (of_key key) same ∙ sym (map-of_key key ys))

  scripts-alike : scripts_in xs ≡ scripts_in ys
  scripts-alike = sym (same-scripts xs) ∙ (ap scripts_in same ∙ same-scripts ys)

  naming-alike : (row other : Row) (process process' name name' : List ℕ)
      → all_ungrouped (naming version Binary a k t row process name)
      ≡ all_ungrouped (naming version Slot b l t other process' name')
  naming-alike row other process process' name name' =
      parts-of_naming ungrouped_drawn (λ pid n. refl) (λ r n. refl)
      version Binary a k t row process name
      ∙ sym (parts-of_naming ungrouped_drawn (λ pid n. refl) (λ r n. refl)
      version Slot b l t other process' name')

  opens-alike : (s s' : Span) (args : Option Data) (starts starts' : List Drawn)
      → ungrouped s ≡ ungrouped s' → all_ungrouped starts ≡ all_ungrouped starts' →
      all_ungrouped (opens version Binary a k t s args starts)
      ≡ all_ungrouped (opens version Slot b l t s' args starts')
  opens-alike s s' args starts starts' is arrows =
      let one : map ungrouped (s ∷ []) ≡ map ungrouped (s' ∷ []) = ap (λ (v : Span). v ∷ []) is in
      both (Slice (mark Begin t s) args ∷ []) (starts ++ cond p (bare End t (s ∷ [])) [])
      (Slice (mark Begin t s') args ∷ []) (starts' ++ cond p (bare End t (s' ∷ [])) [])
      (slices-alike Begin t args (s ∷ []) (s' ∷ []) one)
      (both starts (cond p (bare End t (s ∷ [])) []) starts' (cond p (bare End t (s' ∷ [])) [])
      arrows (bare-alike p End t (s ∷ []) (s' ∷ []) one))

  closes-alike : (key : SpanKey) (args : Option Data)
      → all_ungrouped (closes version Binary a k t (of_key key xs) args)
      ≡ all_ungrouped (closes version Slot b l t (of_key key ys) args)
  closes-alike key args =
      both (cond p (bare Begin t (of_key key xs)) [])
      (map (λ s. Slice (mark End t s) args) (of_key key xs))
      (cond p (bare Begin t (of_key key ys)) [])
      (map (λ s. Slice (mark End t s) args) (of_key key ys))
      (bare-alike p Begin t (of_key key xs) (of_key key ys) (same-of_key key))
      (slices-alike End t args (of_key key xs) (of_key key ys) (same-of_key key))

  run_marked-alike : (what : RunMark) (running scripts : ℕ)
      → all_ungrouped (run_marked version Binary a k t what running scripts)
      ≡ all_ungrouped (run_marked version Slot b l t what running scripts)
  run_marked-alike what running scripts =
      let process = run_process version Binary a k t in
      let marked = RunMarked what (record { tests = running; scripts = scripts }) t ∷ [] in
      both (naming version Binary a k t run_row process (codes "run")) marked
      (naming version Slot b l t run_row process (codes "run")) marked
      (naming-alike run_row run_row process process (codes "run") (codes "run")) refl

  -- a span starts on a row that is named
  starts-alike : (row row' : Row) (process process' name : List ℕ) (s s' : Span)
      (args : Option Data) (starts starts' : List Drawn)
      → ungrouped s ≡ ungrouped s' → all_ungrouped starts ≡ all_ungrouped starts' →
      all_ungrouped
      (naming version Binary a k t row process name ++ opens version Binary a k t s args starts)
      ≡ all_ungrouped
      (naming version Slot b l t row' process' name ++ opens version Slot b l t s' args starts')
  starts-alike row row' process process' name s s' args starts starts' is arrows =
      both (naming version Binary a k t row process name) (opens version Binary a k t s args starts)
      (naming version Slot b l t row' process' name) (opens version Slot b l t s' args starts')
      (naming-alike row row' process process' name name)
      (opens-alike s s' args starts starts' is arrows)

  -- the attempt of a test starts
  attempt-alike : (test : OwnedTestInstanceId) (slot : ℕ) (args : Data)
      (starts starts' : List Drawn) (running : ℕ)
      → all_ungrouped starts ≡ all_ungrouped starts' →
      all_ungrouped (attempt_starts version Binary a k t test slot args starts running)
      ≡ all_ungrouped (attempt_starts version Slot b l t test slot args starts' running)
  attempt-alike test slot args starts starts' running arrows =
      let s = test_span Binary seen test slot in
      let s' = test_span Slot others test slot in
      both (naming version Binary a k t s.row (test_process Binary test) (slot_name slot)
      ++ opens version Binary a k t s (Some args) starts)
      (counter version Binary a k t running scripts ∷ [])
      (naming version Slot b l t s'.row (test_process Slot test) (slot_name slot)
      ++ opens version Slot b l t s' (Some args) starts')
      (counter version Slot b l t running scripts ∷ [])
      (starts-alike s.row s'.row (test_process Binary test) (test_process Slot test)
      (slot_name slot) s s' (Some args) starts starts' refl arrows)
      refl

  arrow_to-alike : (test : OwnedTestInstanceId) (slot : ℕ)
      → all_ungrouped (arrow_to version Binary a k t test slot)
      ≡ all_ungrouped (arrow_to version Slot b l t test slot)
  arrow_to-alike test slot = go (arrow test)
    where
      go : (pends : Option ℕ)
          → all_ungrouped (option_to_list
          (option_map (ArrowFinishes test (test_span Binary seen test slot).row t) pends))
          ≡ all_ungrouped (option_to_list
          (option_map (ArrowFinishes test (test_span Slot others test slot).row t) pends))
      go None = refl
      go (Some n) = refl

  core-alike : (kind : CoreEventKind)
      → all_ungrouped (drawn_core version Binary a k t kind)
      ≡ all_ungrouped (drawn_core version Slot b l t kind)
  core-alike (RunStarted run_id profile_name cli_args stress_condition) =
      starts-alike run_row run_row (run_process_name (Some profile_name))
      (run_process_name (Some profile_name)) (codes "run") run_span run_span
      (Some (run_begin_args version run_id profile_name cli_args stress_condition)) [] [] refl refl
  core-alike (RunFinished run_id start_time elapsed run_stats outstanding) =
      closes-alike keys.Run (Some (run_end_args version elapsed
      (unwrap_or (option_map (λ run. run.profile_name) last_run) []) run_stats outstanding))
  core-alike (RunBeginCancel scripts running reason) =
      ap (λ (ds : List Drawn). counter version Slot b l t running scripts ∷ ds)
      (run_marked-alike (Cancelled reason) running scripts)
  core-alike (RunPaused scripts running) =
      ap (λ (ds : List Drawn). counter version Slot b l t running scripts ∷ ds) (
      both (cond p [] (bare End t xs)) (run_marked version Binary a k t Paused running scripts)
      (cond p [] (bare End t ys)) (run_marked version Slot b l t Paused running scripts)
      (go p) (run_marked-alike Paused running scripts)
      )
    where
      go : (q : Bool)
          → all_ungrouped (cond q [] (bare End t xs)) ≡ all_ungrouped (cond q [] (bare End t ys))
      go true = refl
      go false = slices-alike End t None xs ys same
  core-alike (RunContinued scripts running) =
      ap (λ (ds : List Drawn). counter version Slot b l t running scripts ∷ ds) (
      both (run_marked version Binary a k t Continued running scripts) (cond p (bare Begin t xs) [])
      (run_marked version Slot b l t Continued running scripts) (cond p (bare Begin t ys) [])
      (run_marked-alike Continued running scripts) (bare-alike p Begin t xs ys same)
      )
  core-alike (TestStarted stress_index test slot_assignment current_stats running command_line) =
      attempt-alike test slot_assignment.global_slot
      (test_begin_args test command_line) [] [] running refl
  core-alike (TestRetryStarted stress_index test slot_assignment retry_data running command_line) =
      let slot = slot_assignment.global_slot in
      attempt-alike test slot (retry_begin_args test retry_data command_line)
      (arrow_to version Binary a k t test slot) (arrow_to version Slot b l t test slot) running
      (arrow_to-alike test slot)
  core-alike (TestSlow stress_index test retry_data elapsed will_terminate) =
      let args = slow_test_args test stress_index retry_data elapsed will_terminate in
      each-alike (λ s. Slow categories.Test s.row t args)
      (λ s. Slow categories.Test (ungrouped_row s.row) t args)
      (λ s. ap (λ (tid : ℕ). Slow categories.Test (record { pid = 0; tid = tid }) t args ∷ [])
      (sym (tid-ungrouped s.key s)))
      (of_key (keys.Test test) xs) (of_key (keys.Test test) ys) (same-of_key (keys.Test test))
  core-alike (TestSkipped stress_index test reason skipped) = refl
  core-alike (SetupScriptStarted stress_index index total script_id program args no_capture) =
      let s = script_span index script_id in
      both (naming version Binary a k t s.row (codes "setup-scripts") (script_name index)
      ++ opens version Binary a k t s None [])
      (counter version Binary a k t tests (suc scripts) ∷ [])
      (naming version Slot b l t s.row (codes "setup-scripts") (script_name index)
      ++ opens version Slot b l t s None [])
      (counter version Slot b l t tests (suc scripts) ∷ [])
      (starts-alike s.row s.row (codes "setup-scripts") (codes "setup-scripts") (script_name index)
      s s None [] [] refl refl)
      refl
  core-alike (SetupScriptSlow stress_index script_id program args elapsed will_terminate) =
      ap (λ (zs : List Span). all_ungrouped (map (λ s. Slow categories.SetupScript s.row t
      (slow_script_args script_id stress_index elapsed will_terminate))
      (option_to_list (slice_get (under script_id zs) 0))))
      scripts-alike
  core-alike (StressSubRunStarted progress) =
      let process = run_process version Binary a k t in
      starts-alike sub_run_span.row sub_run_span.row process process (codes "stress sub-runs")
      sub_run_span sub_run_span (Some (sub_run_begin_args progress)) [] [] refl refl
  core-alike (StressSubRunFinished progress sub_elapsed sub_stats) =
      closes-alike keys.SubRun (Some (sub_run_end_args progress sub_elapsed sub_stats))

  output-alike : (kind : PlainOutputKind)
      → all_ungrouped (drawn_output version Binary a k t kind)
      ≡ all_ungrouped (drawn_output version Slot b l t kind)
  output-alike (TestAttemptFailedWillRetry stress_index test status delay failure running) =
      let args = Some
      (failed_attempt_args test stress_index (group_of version Binary a k t test) status delay) in
      let zs = of_key (keys.Test test) xs in
      let ws = of_key (keys.Test test) ys in
      let starts = λ (s : Span). ArrowStarts test s.row t flow in
      both (closes version Binary a k t zs args ++ map starts zs)
      (counter version Binary a k t running scripts ∷ [])
      (closes version Slot b l t ws args ++ map starts ws)
      (counter version Slot b l t running scripts ∷ [])
      (both (closes version Binary a k t zs args) (map starts zs)
      (closes version Slot b l t ws args) (map starts ws) (closes-alike (keys.Test test) args)
      (each-alike starts (λ s. ArrowStarts test (ungrouped_row s.row) t flow)
      (λ s. ap (λ (tid : ℕ). ArrowStarts test (record { pid = 0; tid = tid }) t flow ∷ [])
      (sym (tid-ungrouped s.key s))) zs ws (same-of_key (keys.Test test)))) refl
  output-alike (TestFinished stress_index test success failure store_success store_failure flaky
      statuses current_stats running) =
      let args =
      finished_test_args test stress_index (group_of version Binary a k t test) statuses in
      let rest =
      counter version Binary a k t running scripts ∷ Results (test_counts current_stats) t ∷ [] in
      both (closes version Binary a k t (of_key (keys.Test test) xs) args) rest
      (closes version Slot b l t (of_key (keys.Test test) ys) args) rest
      (closes-alike (keys.Test test) args) refl
  output-alike
      (SetupScriptFinished stress_index index total script_id program args no_capture status) =
      let ends = Some (script_end_args script_id stress_index status) in
      let rest = counter version Binary a k t tests (scripts - 1) ∷ [] in
      both (closes version Binary a k t (of_key (keys.Script index) xs) ends) rest
      (closes version Slot b l t (of_key (keys.Script index) ys) ends) rest
      (closes-alike (keys.Script index) ends) refl

  -- both groupings draw the same of an event but for what the grouping decides
  pub kind-alike : (kind : PlainKind)
      → all_ungrouped (drawn_kind version Binary a k t kind)
      ≡ all_ungrouped (drawn_kind version Slot b l t kind)
  kind-alike (Core kind) = core-alike kind
  kind-alike (Output kind) = output-alike kind
