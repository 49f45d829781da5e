-- What the events so far decide of the trace events of the next one, beside what is open.
use Rattle.std.specs.Option.{option_or, unwrap_or}
use Rattle.std.specs.Prelude.{◌≡◌, ℕ, Bool, false, ◌||◌, Option}
use Rattle.std.specs.Prelude.{None, Some, option_map, if◌then◌else◌}
use Rattle.rec_events.specs.declared.events.CoreEventKind.TheVariants.{
  RunStarted,
  TestStarted,
  TestRetryStarted,
  RunBeginCancel,
  RunPaused,
  RunContinued,
}
use Rattle.rec_events.specs.declared.events.CoreEventKind.{CoreEventKind}
use Rattle.rec_events.specs.declared.events.OutputEventKind.TheVariants.{
  SetupScriptFinished,
  TestAttemptFailedWillRetry,
  TestFinished,
}
use Rattle.rec_events.specs.declared.events.TestEventKindSummary.TheVariants.{Core, Output}
use Rattle.rec_events.specs.declared.groups.TestGroup.{TestGroup}
use Rattle.rec_events.specs.declared.instances.OwnedTestInstanceId.{OwnedTestInstanceId}
use Rattle.rec_events.specs.Tests.{test_eq}
use Rattle.rec_trace_events.specs.declared.rows.Row.{Row}
use Rattle.rec_trace_events.specs.TraceEvents.{process_row, run_row}
use Rattle.rec_spans.specs.Acts.Act.{Pauses, Continues, Cancels}
use Rattle.rec_spans.specs.Acts.{Act}
use Rattle.rec_spans.specs.Keys.{row_eq}
use Rattle.rec_spans.specs.Past.{TraceInput}
use Rattle.rec_spans.specs.Plain.{PlainKind, PlainOutputKind}
use Rattle.rec_spans.specs.Starts.{started}
use Rattle.rec_trace.specs.declared.run_start.RunStart.{RunStart}

-- which rows were named, where the first row of a process stands for the process; how many tests
-- run, by the last event that says so; the last start of a run; the group in which the open attempt
-- of a test was started; and the number of the arrow that is pending for a test
pub record Known : Type 0 where
  pub is_named : Row → Bool
  pub running : ℕ
  pub last_run : Option RunStart
  pub group : OwnedTestInstanceId → Option TestGroup
  pub arrow : OwnedTestInstanceId → Option ℕ

abbrev pub nothing_known : Known
nothing_known = record {
  is_named = λ row. false;
  running = 0;
  last_run = None;
  group = λ test. None;
  arrow = λ test. None;
}

-- what is known of this test, or else what was known before
abbrev pub of_test : {X : Type 0} → OwnedTestInstanceId → Option X
    → (OwnedTestInstanceId → Option X) → OwnedTestInstanceId → Option X
of_test test now before other = if test_eq test other then now else before other

-- ---- rows

-- marks stand on the row of the run
abbrev pub marked_row : Act → Option Row
marked_row (Pauses scripts) = Some run_row
marked_row (Continues scripts) = Some run_row
marked_row (Cancels scripts) = Some run_row
marked_row _ = None

-- the row that an event names, if it isn't named yet: that of the span that it starts,
-- or that of its mark
abbrev pub row_to_name : TraceInput → Option Row
row_to_name input =
    option_or (option_map (λ s. s.row) (started input.change)) (marked_row input.act)

-- a row is named with its process
abbrev pub names : Option Row → Row → Bool
names None row = false
names (Some named) row = row_eq named row || row_eq (process_row named.pid) row

abbrev pub named_after : TraceInput → (Row → Bool) → Row → Bool
named_after input before row = names (row_to_name input) row || before row

-- ---- counts and runs

abbrev pub core_running : CoreEventKind → Option ℕ
core_running (TestStarted stress_index test slot_assignment current_stats running command_line) =
    Some running
core_running (TestRetryStarted stress_index test slot_assignment retry_data running command_line) =
    Some running
core_running (RunBeginCancel scripts running reason) = Some running
core_running (RunPaused scripts running) = Some running
core_running (RunContinued scripts running) = Some running
core_running _ = None

abbrev pub output_running : PlainOutputKind → Option ℕ
output_running (SetupScriptFinished stress index total script program args no_capture status) = None
output_running (TestAttemptFailedWillRetry stress test status delay failure running) = Some running
output_running (TestFinished stress test success failure store_success store_failure flaky statuses
    current_stats running) =
    Some running

-- how many tests run, where an event says so
abbrev pub running_of : PlainKind → Option ℕ
running_of (Core kind) = core_running kind
running_of (Output kind) = output_running kind

abbrev pub core_run : CoreEventKind → Option RunStart
core_run (RunStarted run_id profile_name cli_args stress_condition) =
    Some (record {
      run_id = run_id;
      profile_name = profile_name;
      cli_args = cli_args;
      stress_condition = stress_condition;
    })
core_run _ = None

-- the run that an event starts
abbrev pub run_of : PlainKind → Option RunStart
run_of (Core kind) = core_run kind
run_of (Output kind) = None

-- ---- tests

abbrev pub core_group : CoreEventKind → (OwnedTestInstanceId → Option TestGroup)
    → OwnedTestInstanceId → Option TestGroup
core_group (TestStarted stress_index test slot_assignment current_stats running command_line)
    before =
    of_test test (Some slot_assignment.test_group) before
core_group (TestRetryStarted stress_index test slot_assignment retry_data running command_line)
    before =
    of_test test (Some slot_assignment.test_group) before
core_group _ before = before

abbrev pub output_group : PlainOutputKind → (OwnedTestInstanceId → Option TestGroup)
    → OwnedTestInstanceId → Option TestGroup
output_group (SetupScriptFinished stress index total script program args no_capture status) before =
    before
output_group (TestAttemptFailedWillRetry stress test status delay failure running) before =
    of_test test None before
output_group (TestFinished stress test success failure store_success store_failure flaky statuses
    current_stats running) before = of_test test None before

-- an attempt has the group of its start, until it ends
abbrev pub group_after : PlainKind → (OwnedTestInstanceId → Option TestGroup) → OwnedTestInstanceId
    → Option TestGroup
group_after (Core kind) before = core_group kind before
group_after (Output kind) before = output_group kind before

abbrev pub core_arrow : CoreEventKind → (OwnedTestInstanceId → Option ℕ) → OwnedTestInstanceId
    → Option ℕ
core_arrow (TestRetryStarted stress_index test slot_assignment retry_data running command_line)
    before =
    of_test test None before
core_arrow _ before = before

abbrev pub output_arrow : ℕ → PlainOutputKind → (OwnedTestInstanceId → Option ℕ)
    → OwnedTestInstanceId → Option ℕ
output_arrow flow (SetupScriptFinished stress index total script program args no_capture status)
    before =
    before
output_arrow flow (TestAttemptFailedWillRetry stress test status delay failure running) before =
    of_test test (Some flow) before
output_arrow flow (TestFinished stress test success failure store_success store_failure flaky
    statuses current_stats running) before = before

-- the arrow of a failed attempt, which has the next flow number,
-- is pending until an attempt starts as a retry
abbrev pub arrow_after : ℕ → PlainKind → (OwnedTestInstanceId → Option ℕ) → OwnedTestInstanceId
    → Option ℕ
arrow_after flow (Core kind) before = core_arrow kind before
arrow_after flow (Output kind) before = output_arrow flow kind before

-- ---- all of it

-- what is known after one event more, which has this next flow number if it is a failed attempt
abbrev pub next_known : ℕ → TraceInput → PlainKind → Known → Known
next_known flow input kind known = record {
  is_named = named_after input known.is_named;
  running = unwrap_or (running_of kind) known.running;
  last_run = option_or (run_of kind) known.last_run;
  group = group_after kind known.group;
  arrow = arrow_after flow kind known.arrow;
}

-- the same is known: maps are compared by what they say of each row and each test
pub record SameKnown (a b : Known) : Type 0 where
  pub is_named : (row : _) → a.is_named row ≡ b.is_named row
  pub running : a.running ≡ b.running
  pub last_run : a.last_run ≡ b.last_run
  pub group : (test : _) → a.group test ≡ b.group test
  pub arrow : (test : _) → a.arrow test ≡ b.arrow test
