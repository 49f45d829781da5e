-- The table of a trace: what each event draws, after those before it.
use Rattle.std.specs.Option.{unwrap_or}
use Rattle.std.specs.Prelude.{ℕ, suc, ◌-◌, ℤ, List, [], ◌∷◌, ◌++◌, map, Option, None, Some}
use Rattle.std.specs.Prelude.{option_map, option_to_list, slice_get, if◌then◌else◌, codes}
use Rattle.semver.specs.Parse.{Parts}
use Rattle.serde_json.specs.Data.{Data}
use Rattle.rec_events.specs.declared.events.CoreEventKind.TheVariants.{
  RunStarted,
  StressSubRunStarted,
  SetupScriptStarted,
  SetupScriptSlow,
  TestStarted,
  TestSlow,
  TestRetryStarted,
  TestSkipped,
  RunBeginCancel,
  RunPaused,
  RunContinued,
  StressSubRunFinished,
  RunFinished,
}
use Rattle.rec_events.specs.declared.events.CoreEventKind.{CoreEventKind}
use Rattle.rec_events.specs.declared.events.OutputEventKind.TheVariants.{
  SetupScriptFinished,
  TestAttemptFailedWillRetry,
  TestFinished,
}
use Rattle.rec_events.specs.declared.events.TestEventKindSummary.TheVariants.{Core, Output}
use Rattle.rec_events.specs.declared.groups.TestGroup.TheVariants.{Global}
use Rattle.rec_events.specs.declared.groups.TestGroup.{TestGroup}
use Rattle.rec_events.specs.declared.instances.OwnedTestInstanceId.{OwnedTestInstanceId}
use Rattle.rec_events.specs.Times.{micros}
use Rattle.rec_trace_events.specs.Args.{failed_attempt_args, finished_test_args}
use Rattle.rec_trace_events.specs.Args.{retry_begin_args, run_begin_args, run_end_args}
use Rattle.rec_trace_events.specs.Args.{script_end_args, slow_script_args, slow_test_args}
use Rattle.rec_trace_events.specs.Args.{sub_run_begin_args, sub_run_end_args, test_begin_args}
use Rattle.rec_trace_events.specs.declared.instants.RunMark.TheVariants.{
  Cancelled,
  Paused,
  Continued,
}
use Rattle.rec_trace_events.specs.declared.instants.RunMark.{RunMark}
use Rattle.rec_trace_events.specs.declared.rows.Category.TheVariants as categories
use Rattle.rec_trace_events.specs.declared.rows.Row.{Row}
use Rattle.rec_trace_events.specs.RowNames.{run_process_name, script_name, slot_name}
use Rattle.rec_trace_events.specs.TraceEvents.{process_row, run_row, test_counts}
use Rattle.rec_spans.specs.declared.settings.ChromeTraceGroupBy.TheVariants.{Binary, Slot}
use Rattle.rec_spans.specs.declared.settings.ChromeTraceGroupBy.{ChromeTraceGroupBy}
use Rattle.rec_spans.specs.declared.spans.Phase.TheVariants.{Begin, End}
use Rattle.rec_spans.specs.declared.spans.Phase.{Phase}
use Rattle.rec_spans.specs.declared.spans.Span.{Span}
use Rattle.rec_spans.specs.declared.spans.SpanKey.TheVariants as keys
use Rattle.rec_spans.specs.History.{TraceState}
use Rattle.rec_spans.specs.Kinds.{run_span, script_span, sub_run_span, test_span}
use Rattle.rec_spans.specs.Past.{mark, of_key}
use Rattle.rec_spans.specs.Plain.{PlainEvent, PlainKind, PlainOutputKind}
use Rattle.rec_spans.specs.Refusals.{scripts_in, under}
use Rattle.rec_trace.specs.Drawn.Drawn.{Slice, ProcessNamed, RowNamed, Running, Results}
use Rattle.rec_trace.specs.Drawn.Drawn.{RunMarked, Slow, ArrowStarts, ArrowFinishes}
use Rattle.rec_trace.specs.Drawn.{Drawn}
use Rattle.rec_trace.specs.Known.{Known}

-- the process of a test's row: its binary, or that of all tests
abbrev pub test_process : ChromeTraceGroupBy → OwnedTestInstanceId → List ℕ
test_process Binary test = test.binary_id
test_process Slot test = codes "tests"

-- the begins, or the ends, of these spans without args
abbrev pub bare : Phase → ℤ → List Span → List Drawn
bare phase t spans = map (λ s. Slice (mark phase t s) None) spans

-- ---- of an event at this instant, where this is open and known before it;
-- runs are of this version of the runner

module _ (version : Parts) (g : ChromeTraceGroupBy) (state : TraceState) (known : Known)
    (t : ℤ) where
  -- the names of a row and of its process, each where it wasn't given before
  abbrev pub naming : Row → List ℕ → List ℕ → List Drawn
  naming row process name =
      (if known.is_named (process_row row.pid) then [] else ProcessNamed row.pid process ∷ [])
      ++ (if known.is_named row then [] else RowNamed row name ∷ [])

  -- a span begins, and an arrow finishes there, where there is one.
  -- In a pause the span ends at once
  abbrev pub opens : Span → Option Data → List Drawn → List Drawn
  opens s args arrow =
      Slice (mark Begin t s) args ∷ (arrow ++ (if state.in_pause then bare End t (s ∷ []) else []))

  -- these spans end. In a pause they begin before that
  abbrev pub closes : List Span → Option Data → List Drawn
  closes spans args =
      (if state.in_pause then bare Begin t spans else [])
      ++ map (λ s. Slice (mark End t s) args) spans

  abbrev pub counter : (tests scripts : ℕ) → Drawn
  counter tests scripts = Running (record { tests = tests; scripts = scripts }) t

  -- the process of the run has the name of the profile under which a run started last
  abbrev pub run_process : List ℕ
  run_process = run_process_name (option_map (λ run. run.profile_name) known.last_run)

  -- a mark over the run, on its row
  abbrev pub run_marked : RunMark → (tests scripts : ℕ) → List Drawn
  run_marked what tests scripts =
      naming run_row run_process (codes "run")
      ++ RunMarked what (record { tests = tests; scripts = scripts }) t ∷ []

  abbrev pub attempt : OwnedTestInstanceId → List Span
  attempt test = of_key (keys.Test test) state.spans

  -- a test whose attempt isn't open has no group; none such ends
  abbrev pub group_of : OwnedTestInstanceId → TestGroup
  group_of test = unwrap_or (known.group test) Global

  abbrev pub attempt_starts : OwnedTestInstanceId → ℕ → Data → List Drawn → ℕ → List Drawn
  attempt_starts test slot args arrow running =
      let s = test_span g state.binaries test slot in
      naming s.row (test_process g test) (slot_name slot) ++ opens s (Some args) arrow
      ++ counter running state.scripts ∷ []

  -- the pending arrow of a test finishes on the row of its next attempt
  abbrev pub arrow_to : OwnedTestInstanceId → ℕ → List Drawn
  arrow_to test slot =
      option_to_list (option_map (ArrowFinishes test (test_span g state.binaries test slot).row t)
      (known.arrow test))

  abbrev pub drawn_core : CoreEventKind → List Drawn
  drawn_core (RunStarted run_id profile_name cli_args stress_condition) =
      naming run_row (run_process_name (Some profile_name)) (codes "run")
      ++ opens run_span
      (Some (run_begin_args version run_id profile_name cli_args stress_condition)) []
  drawn_core (RunFinished run_id start_time elapsed run_stats outstanding) =
      closes (of_key keys.Run state.spans) (Some (run_end_args version elapsed
      (unwrap_or (option_map (λ run. run.profile_name) known.last_run) []) run_stats outstanding))
  drawn_core (RunBeginCancel scripts running reason) =
      counter running scripts ∷ run_marked (Cancelled reason) running scripts
  drawn_core (RunPaused scripts running) =
      counter running scripts ∷ ((if state.in_pause then [] else bare End t state.spans)
      ++ run_marked Paused running scripts)
  drawn_core (RunContinued scripts running) =
      counter running scripts ∷ (run_marked Continued running scripts
      ++ (if state.in_pause then bare Begin t state.spans else []))
  drawn_core (TestStarted stress_index test slot_assignment current_stats running command_line) =
      attempt_starts test slot_assignment.global_slot (test_begin_args test command_line) [] running
  drawn_core (TestRetryStarted stress_index test slot_assignment retry_data running command_line) =
      attempt_starts test slot_assignment.global_slot
      (retry_begin_args test retry_data command_line) (arrow_to test slot_assignment.global_slot)
      running
  drawn_core (TestSlow stress_index test retry_data elapsed will_terminate) =
      map (λ s. Slow categories.Test s.row t
      (slow_test_args test stress_index retry_data elapsed will_terminate))
      (attempt test)
  drawn_core (TestSkipped stress_index test reason skipped) = []
  drawn_core (SetupScriptStarted stress_index index total script_id program args no_capture) =
      let s = script_span index script_id in
      naming s.row (codes "setup-scripts") (script_name index) ++ opens s None []
      ++ counter known.running (suc state.scripts) ∷ []
  -- of those that run under its id, it is the one with the smallest index
  drawn_core (SetupScriptSlow stress_index script_id program args elapsed will_terminate) =
      map (λ s. Slow categories.SetupScript s.row t
      (slow_script_args script_id stress_index elapsed will_terminate))
      (option_to_list (slice_get (under script_id (scripts_in state.spans)) 0))
  drawn_core (StressSubRunStarted progress) =
      naming sub_run_span.row run_process (codes "stress sub-runs")
      ++ opens sub_run_span (Some (sub_run_begin_args progress)) []
  drawn_core (StressSubRunFinished progress sub_elapsed sub_stats) =
      closes (of_key keys.SubRun state.spans)
      (Some (sub_run_end_args progress sub_elapsed sub_stats))

  abbrev pub drawn_output : PlainOutputKind → List Drawn
  drawn_output (TestAttemptFailedWillRetry stress_index test status delay failure running) =
      closes (attempt test)
      (Some (failed_attempt_args test stress_index (group_of test) status delay))
      ++ map (λ s. ArrowStarts test s.row t state.next_flow) (attempt test)
      ++ counter running state.scripts ∷ []
  drawn_output (TestFinished stress_index test success failure store_success store_failure flaky
      statuses current_stats running) =
      closes (attempt test) (finished_test_args test stress_index (group_of test) statuses)
      ++ counter running state.scripts ∷ Results (test_counts current_stats) t ∷ []
  drawn_output
      (SetupScriptFinished stress_index index total script_id program args no_capture status) =
      closes (of_key (keys.Script index) state.spans)
      (Some (script_end_args script_id stress_index status))
      ++ counter known.running (state.scripts - 1) ∷ []

  abbrev pub drawn_kind : PlainKind → List Drawn
  drawn_kind (Core kind) = drawn_core kind
  drawn_kind (Output kind) = drawn_output kind

-- what an event draws
abbrev pub drawn : Parts → ChromeTraceGroupBy → TraceState → Known → PlainEvent → List Drawn
drawn version g state known event =
    drawn_kind version g state known (micros event.timestamp) event.kind
