-- The counts of a run.
use Rattle.std.specs.Prelude.{ℕ, ◌+◌, None}
use Rattle.rec_events.specs.declared.stats.RunStats.{RunStats}

-- nothing ran yet
abbrev pub no_stats : RunStats
no_stats = record {
  initial_run_count = 0;
  finished_count = 0;
  setup_scripts_initial_count = 0;
  setup_scripts_finished_count = 0;
  setup_scripts_passed = 0;
  setup_scripts_failed = 0;
  setup_scripts_exec_failed = 0;
  setup_scripts_timed_out = 0;
  passed = 0;
  passed_slow = 0;
  passed_timed_out = 0;
  flaky = 0;
  failed = 0;
  failed_slow = 0;
  failed_timed_out = 0;
  leaky = 0;
  leaky_failed = 0;
  exec_failed = 0;
  skipped = 0;
  cancel_reason = None;
}

-- the tests that failed, whatever the reason
abbrev pub failures : RunStats → ℕ
failures s = s.failed + s.exec_failed + s.failed_timed_out
