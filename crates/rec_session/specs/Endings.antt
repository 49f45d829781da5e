-- How a recorded run ended.
use Rattle.std.specs.Prelude.{ℕ, ◌-◌, ◌^◌, List, if◌then◌else◌, nat_lt}
use Rattle.std.specs.Prelude.{ℤ, Option, Some, None, option_map}
use Rattle.rec_events.specs.declared.run_ends.FinalRunStats.TheVariants as run
use Rattle.rec_events.specs.declared.run_ends.FinalRunStats.{FinalRunStats}
use Rattle.rec_events.specs.declared.run_ends.RunFinishedStats.TheVariants.{Single, Stress}
use Rattle.rec_events.specs.declared.run_ends.RunFinishedStats.{RunFinishedStats}
use Rattle.rec_events.specs.declared.run_ends.StressFinalRunStats.TheVariants as stress
use Rattle.rec_events.specs.declared.run_ends.StressFinalRunStats.{StressFinalRunStats}
use Rattle.rec_events.specs.declared.run_ends.StressRunStats.{StressRunStats}
use Rattle.rec_events.specs.declared.stats.RunStats.{RunStats}
use Rattle.rec_events.specs.Stats.{failures}
use Rattle.rec_events.specs.Summaries.{summary, stress_summary}
use Rattle.rec_format.specs.declared.status.CompletedRunStats.{CompletedRunStats}
use Rattle.rec_format.specs.declared.status.RecordedRunStatus.TheVariants.{
  Incomplete,
  Completed,
  Cancelled,
  StressCompleted,
  StressCancelled,
}
use Rattle.rec_format.specs.declared.status.RecordedRunStatus.{RecordedRunStatus}
use Rattle.rec_format.specs.declared.status.StressCompletedRunStats.{StressCompletedRunStats}
use Rattle.rec_store.specs.declared.sizes.StoreSizes.{StoreSizes}
use Rattle.rec_session.specs.declared.ending.RunEnding.{RunEnding}
use Rattle.rec_session.specs.declared.finalize.RunFinishedInfo.{RunFinishedInfo}

-- the tests that failed, as far as usize counts them
abbrev pub failed_tests : RunStats → ℕ
failed_tests s = if nat_lt (failures s) (2 ^ 64) then failures s else 2 ^ 64 - 1

abbrev pub completed_stats : RunStats → ℤ → CompletedRunStats
completed_stats s exit_code = record {
  initial_run_count = s.initial_run_count;
  passed = s.passed;
  failed = failed_tests s;
  exit_code = exit_code;
}

abbrev pub stress_stats : StressRunStats → ℤ → StressCompletedRunStats
stress_stats s exit_code = record {
  initial_iteration_count = s.completed.total;
  success_count = s.success_count;
  failed_count = s.failed_count;
  exit_code = exit_code;
}

-- by how the run ended in all: it was cancelled, or completed
abbrev pub single_status : FinalRunStats → CompletedRunStats → RecordedRunStatus
single_status run.Cancelled stats = Cancelled stats
single_status run.Success stats = Completed stats
single_status run.NoTestsRun stats = Completed stats
single_status run.Failed stats = Completed stats

abbrev pub stress_status : StressFinalRunStats → StressCompletedRunStats → RecordedRunStatus
stress_status stress.Cancelled stats = StressCancelled stats
stress_status stress.Success stats = StressCompleted stats
stress_status stress.NoTestsRun stats = StressCompleted stats
stress_status stress.Failed stats = StressCompleted stats

abbrev pub status_of : RunFinishedStats → ℤ → RecordedRunStatus
status_of (Single s) exit_code = single_status (summary s) (completed_stats s exit_code)
status_of (Stress s) exit_code = stress_status (stress_summary s) (stress_stats s exit_code)

-- a run of which no end is known is incomplete
abbrev pub status_where : Option RunFinishedInfo → ℤ → RecordedRunStatus
status_where None exit_code = Incomplete
status_where (Some info) exit_code = status_of info.stats exit_code

abbrev pub ending_of : List ℕ → StoreSizes → Option RunFinishedInfo → ℤ → RunEnding
ending_of run_id sizes finished exit_code = record {
  run_id = run_id;
  sizes = sizes;
  status = status_where finished exit_code;
  duration = option_map (λ info. info.elapsed) finished;
}
