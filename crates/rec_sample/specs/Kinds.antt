-- What happens in a generated session of n tests.
use Rattle.std.specs.Int.{w128, to_be_bytes}
use Rattle.std.specs.Prelude.{ℕ, ◌%◌, ◌==◌, pos, false, if◌then◌else◌}
use Rattle.std.specs.Prelude.{List, [], ◌∷◌, Some, None, codes}
use Rattle.rec_events.specs.declared.events.CoreEventKind.TheVariants.{
  RunStarted,
  TestStarted,
  RunPaused,
  RunContinued,
  RunFinished,
}
use Rattle.rec_events.specs.declared.events.CoreEventKind.{CoreEventKind}
use Rattle.rec_events.specs.declared.events.OutputEventKind.TheVariants.{TestFinished}
use Rattle.rec_events.specs.declared.events.OutputEventKind.{OutputEventKind}
use Rattle.rec_events.specs.declared.groups.TestGroup.TheVariants.{Global}
use Rattle.rec_events.specs.declared.instances.TestSlotAssignment.{TestSlotAssignment}
use Rattle.rec_events.specs.declared.outputs.ChildExecutionOutputDescription.TheVariants.{Output}
use Rattle.rec_events.specs.declared.outputs.ChildExecutionOutputDescription.{
  ChildExecutionOutputDescription,
}
use Rattle.rec_events.specs.declared.outputs.ChildOutputDescription.TheVariants.{Split}
use Rattle.rec_events.specs.declared.outputs.ChildOutputDescription.{ChildOutputDescription}
use Rattle.rec_events.specs.declared.outputs.LiveSpec.{LiveSpec}
use Rattle.rec_events.specs.declared.reporting.JunitFlakyFailStatus.TheVariants.{Failure}
use Rattle.rec_events.specs.declared.reporting.TestOutputDisplay.TheVariants.{Never}
use Rattle.rec_events.specs.declared.results.ExecutionResultDescription.TheVariants as result
use Rattle.rec_events.specs.declared.results.ExecutionResultDescription.{ExecutionResultDescription}
use Rattle.rec_events.specs.declared.results.FailureDescription.TheVariants.{ExitCode}
use Rattle.rec_events.specs.declared.results.FlakyResult.TheVariants as flaky
use Rattle.rec_events.specs.declared.run_ends.RunFinishedStats.TheVariants.{Single}
use Rattle.rec_events.specs.declared.stats.RunStats.{RunStats}
use Rattle.rec_events.specs.declared.statuses.ExecuteStatus.{ExecuteStatus}
use Rattle.rec_events.specs.Stats.{no_stats}
use Rattle.rec_sample.specs.Batches.{slot, batch_size, running_from, running_after}
use Rattle.rec_sample.specs.Instants.{run_start, test_start, seconds}
use Rattle.rec_sample.specs.Names.{test_instance, test_stdout}

-- 550e8400-e29b-41d4-a716-446655440000
unfoldable pub run_id : List ℕ
run_id = to_be_bytes w128 0x550e8400e29b41d4a716446655440000

-- nothing is counted but how many tests there are
abbrev pub stats : ℕ → RunStats
stats n = record no_stats { initial_run_count = n }

abbrev pub slot_assignment : ℕ → TestSlotAssignment
slot_assignment i = record { global_slot = slot i; group_slot = None; test_group = Global }

-- ---- an attempt

-- every hundredth test fails
abbrev pub test_result : ℕ → ExecutionResultDescription
test_result i = if i % 100 == 99 then result.Fail (ExitCode (pos 1)) false else result.Pass

-- its stderr isn't captured
abbrev pub test_output : ℕ → ChildExecutionOutputDescription LiveSpec ChildOutputDescription
test_output i = Output None (Split (Some (test_stdout i)) None) None

-- the only one of its test
abbrev pub attempt : ℕ → ExecuteStatus LiveSpec ChildOutputDescription
attempt i = record {
  retry_data = record { attempt = 1; total_attempts = 1 };
  output = test_output i;
  result = test_result i;
  start_time = test_start i;
  time_taken = seconds 3;
  is_slow = false;
  delay_before_start = seconds 0;
  error_summary = None;
  output_error_slice = None;
  cpu_time = None;
}

-- ---- the kinds

abbrev pub run_started : CoreEventKind
run_started = RunStarted run_id (codes "default") [] None

abbrev pub test_started : ℕ → ℕ → CoreEventKind
test_started n i =
    TestStarted None (test_instance i) (slot_assignment i) (stats n) (running_from i) []

-- in the batch b
abbrev pub run_paused : ℕ → ℕ → CoreEventKind
run_paused n b = RunPaused 0 (batch_size n b)

abbrev pub run_continued : ℕ → ℕ → CoreEventKind
run_continued n b = RunContinued 0 (batch_size n b)

abbrev pub test_finished : ℕ → ℕ → OutputEventKind LiveSpec ChildOutputDescription
test_finished n i =
    TestFinished
    None
    (test_instance i)
    Never
    Never
    false
    false
    Failure
    (record { statuses = attempt i ∷ []; flaky_result = flaky.Pass })
    (stats n)
    (running_after n i)

abbrev pub run_finished : ℕ → CoreEventKind
run_finished n = RunFinished run_id run_start (seconds 0) (Single (stats n)) None
