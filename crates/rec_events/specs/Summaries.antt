-- How a run ended, by its counts.
use Rattle.std.specs.Prelude.{◌==◌, nat_lt, ◌||◌, Bool, Option, Some, None, if◌then◌else◌}
use Rattle.rec_events.specs.declared.reporting.CancelReason.TheVariants.{
  SetupScriptFailure,
  TestFailure,
  ReportError,
  GlobalTimeout,
  TestFailureImmediate,
  Signal,
  Interrupt,
  SecondSignal,
}
use Rattle.rec_events.specs.declared.reporting.CancelReason.{CancelReason}
use Rattle.rec_events.specs.declared.run_ends.FinalRunStats.TheVariants as run
use Rattle.rec_events.specs.declared.run_ends.FinalRunStats.{FinalRunStats}
use Rattle.rec_events.specs.declared.run_ends.StressFinalRunStats.TheVariants as stress
use Rattle.rec_events.specs.declared.run_ends.StressFinalRunStats.{StressFinalRunStats}
use Rattle.rec_events.specs.declared.run_ends.StressRunStats.{StressRunStats}
use Rattle.rec_events.specs.declared.stats.RunStats.{RunStats}

abbrev pub has_failed_script : RunStats → Bool
has_failed_script s =
    nat_lt 0 s.setup_scripts_failed || nat_lt 0 s.setup_scripts_exec_failed
    || nat_lt 0 s.setup_scripts_timed_out

abbrev pub has_failed_test : RunStats → Bool
has_failed_test s = nat_lt 0 s.failed || nat_lt 0 s.exec_failed || nat_lt 0 s.failed_timed_out

-- a failure, unless a graver reason than a failed test ended the run
abbrev pub failed_or_cancelled : Option CancelReason → FinalRunStats
failed_or_cancelled None = run.Failed
failed_or_cancelled (Some SetupScriptFailure) = run.Failed
failed_or_cancelled (Some TestFailure) = run.Failed
failed_or_cancelled (Some ReportError) = run.Cancelled
failed_or_cancelled (Some GlobalTimeout) = run.Cancelled
failed_or_cancelled (Some TestFailureImmediate) = run.Cancelled
failed_or_cancelled (Some Signal) = run.Cancelled
failed_or_cancelled (Some Interrupt) = run.Cancelled
failed_or_cancelled (Some SecondSignal) = run.Cancelled

-- the first that holds: setup scripts before tests, and what failed before what is missing
abbrev pub summary : RunStats → FinalRunStats
summary s =
    if has_failed_script s then failed_or_cancelled s.cancel_reason
    else if nat_lt s.setup_scripts_finished_count s.setup_scripts_initial_count then run.Cancelled
    else if has_failed_test s then failed_or_cancelled s.cancel_reason
    else if nat_lt s.finished_count s.initial_run_count then run.Cancelled
    else if s.finished_count == 0 then run.NoTestsRun
    else run.Success

-- how the last run of a stress run ended, where none failed
abbrev pub last_summary : FinalRunStats → StressFinalRunStats
last_summary run.Success = stress.Success
last_summary run.NoTestsRun = stress.NoTestsRun
last_summary run.Failed = stress.Success
last_summary run.Cancelled = stress.Cancelled

abbrev pub stress_summary : StressRunStats → StressFinalRunStats
stress_summary s =
    if nat_lt 0 s.failed_count then stress.Failed else last_summary s.last_final_stats
