-- The value and form of the counts of a run.
use Rattle.std.specs.Prelude.{◌^◌, ◌<◌, List, [], ◌∷◌, ◌++◌, Option, Some, codes}
use Rattle.serde_json.specs.Data.{Data, Members}
use Rattle.serde_json.specs.Find.{as_object}
use Rattle.rec_events.specs.declared.stats.RunStats.{RunStats}
use Rattle.rec_forms.specs.declared.stats.FirstCounts.{FirstCounts}
use Rattle.rec_forms.specs.declared.stats.LastCounts.{LastCounts}
use Rattle.rec_forms.specs.declared.stats.MiddleCounts.{MiddleCounts}
use Rattle.rec_forms.specs.Numbers.{u64_form}
use Rattle.rec_forms.specs.Reporting.{cancel_reason_value, cancel_reason_form}
use Rattle.rec_forms.specs.Shape.{◌>>=◌, Field, natural, field, optional, struct, required, maybe}

-- FirstCounts
abbrev pub first_counts_fields : RunStats → List Field
first_counts_fields s =
    field (codes "exec-failed") (natural s.exec_failed)
    ∷ field (codes "failed") (natural s.failed)
    ∷ field (codes "failed-slow") (natural s.failed_slow)
    ∷ field (codes "failed-timed-out") (natural s.failed_timed_out)
    ∷ field (codes "finished-count") (natural s.finished_count)
    ∷ field (codes "flaky") (natural s.flaky)
    ∷ []

unfoldable pub first_counts_form : Members → Option FirstCounts
first_counts_form ms = do
  exec_failed ← required u64_form (codes "exec-failed") ms
  failed ← required u64_form (codes "failed") ms
  failed_slow ← required u64_form (codes "failed-slow") ms
  failed_timed_out ← required u64_form (codes "failed-timed-out") ms
  finished_count ← required u64_form (codes "finished-count") ms
  flaky ← required u64_form (codes "flaky") ms
  Some (record {
    exec_failed = exec_failed;
    failed = failed;
    failed_slow = failed_slow;
    failed_timed_out = failed_timed_out;
    finished_count = finished_count;
    flaky = flaky;
  })

pub record AreFirstCounts (s : RunStats) : Type 0 where
  pub exec_failed : s.exec_failed < 2 ^ 64
  pub failed : s.failed < 2 ^ 64
  pub failed_slow : s.failed_slow < 2 ^ 64
  pub failed_timed_out : s.failed_timed_out < 2 ^ 64
  pub finished_count : s.finished_count < 2 ^ 64
  pub flaky : s.flaky < 2 ^ 64

-- MiddleCounts
abbrev pub middle_counts_fields : RunStats → List Field
middle_counts_fields s =
    field (codes "initial-run-count") (natural s.initial_run_count)
    ∷ field (codes "leaky") (natural s.leaky)
    ∷ field (codes "leaky-failed") (natural s.leaky_failed)
    ∷ field (codes "passed") (natural s.passed)
    ∷ field (codes "passed-slow") (natural s.passed_slow)
    ∷ field (codes "passed-timed-out") (natural s.passed_timed_out)
    ∷ []

unfoldable pub middle_counts_form : Members → Option MiddleCounts
middle_counts_form ms = do
  initial_run_count ← required u64_form (codes "initial-run-count") ms
  leaky ← required u64_form (codes "leaky") ms
  leaky_failed ← required u64_form (codes "leaky-failed") ms
  passed ← required u64_form (codes "passed") ms
  passed_slow ← required u64_form (codes "passed-slow") ms
  passed_timed_out ← required u64_form (codes "passed-timed-out") ms
  Some (record {
    initial_run_count = initial_run_count;
    leaky = leaky;
    leaky_failed = leaky_failed;
    passed = passed;
    passed_slow = passed_slow;
    passed_timed_out = passed_timed_out;
  })

pub record AreMiddleCounts (s : RunStats) : Type 0 where
  pub initial_run_count : s.initial_run_count < 2 ^ 64
  pub leaky : s.leaky < 2 ^ 64
  pub leaky_failed : s.leaky_failed < 2 ^ 64
  pub passed : s.passed < 2 ^ 64
  pub passed_slow : s.passed_slow < 2 ^ 64
  pub passed_timed_out : s.passed_timed_out < 2 ^ 64

-- LastCounts
abbrev pub last_counts_fields : RunStats → List Field
last_counts_fields s =
    field (codes "setup-scripts-exec-failed") (natural s.setup_scripts_exec_failed)
    ∷ field (codes "setup-scripts-failed") (natural s.setup_scripts_failed)
    ∷ field (codes "setup-scripts-finished-count") (natural s.setup_scripts_finished_count)
    ∷ field (codes "setup-scripts-initial-count") (natural s.setup_scripts_initial_count)
    ∷ field (codes "setup-scripts-passed") (natural s.setup_scripts_passed)
    ∷ field (codes "setup-scripts-timed-out") (natural s.setup_scripts_timed_out)
    ∷ field (codes "skipped") (natural s.skipped)
    ∷ []

unfoldable pub last_counts_form : Members → Option LastCounts
last_counts_form ms = do
  setup_scripts_exec_failed ← required u64_form (codes "setup-scripts-exec-failed") ms
  setup_scripts_failed ← required u64_form (codes "setup-scripts-failed") ms
  setup_scripts_finished_count ← required u64_form (codes "setup-scripts-finished-count") ms
  setup_scripts_initial_count ← required u64_form (codes "setup-scripts-initial-count") ms
  setup_scripts_passed ← required u64_form (codes "setup-scripts-passed") ms
  setup_scripts_timed_out ← required u64_form (codes "setup-scripts-timed-out") ms
  skipped ← required u64_form (codes "skipped") ms
  Some (record {
    setup_scripts_exec_failed = setup_scripts_exec_failed;
    setup_scripts_failed = setup_scripts_failed;
    setup_scripts_finished_count = setup_scripts_finished_count;
    setup_scripts_initial_count = setup_scripts_initial_count;
    setup_scripts_passed = setup_scripts_passed;
    setup_scripts_timed_out = setup_scripts_timed_out;
    skipped = skipped;
  })

pub record AreLastCounts (s : RunStats) : Type 0 where
  pub setup_scripts_exec_failed : s.setup_scripts_exec_failed < 2 ^ 64
  pub setup_scripts_failed : s.setup_scripts_failed < 2 ^ 64
  pub setup_scripts_finished_count : s.setup_scripts_finished_count < 2 ^ 64
  pub setup_scripts_initial_count : s.setup_scripts_initial_count < 2 ^ 64
  pub setup_scripts_passed : s.setup_scripts_passed < 2 ^ 64
  pub setup_scripts_timed_out : s.setup_scripts_timed_out < 2 ^ 64
  pub skipped : s.skipped < 2 ^ 64

-- RunStats
abbrev pub reason_fields : RunStats → List Field
reason_fields s = optional (codes "cancel-reason") cancel_reason_value s.cancel_reason ∷ []

abbrev pub run_stats_value : RunStats → Data
run_stats_value s =
    struct
    (reason_fields s ++ first_counts_fields s ++ middle_counts_fields s ++ last_counts_fields s)

unfoldable pub run_stats_form : Data → Option RunStats
run_stats_form d = do
  ms ← as_object d
  f ← first_counts_form ms
  p ← middle_counts_form ms
  s ← last_counts_form ms
  cancel_reason ← maybe cancel_reason_form (codes "cancel-reason") ms
  Some (record {
    setup_scripts_initial_count = s.setup_scripts_initial_count;
    setup_scripts_finished_count = s.setup_scripts_finished_count;
    setup_scripts_passed = s.setup_scripts_passed;
    setup_scripts_failed = s.setup_scripts_failed;
    setup_scripts_exec_failed = s.setup_scripts_exec_failed;
    setup_scripts_timed_out = s.setup_scripts_timed_out;
    initial_run_count = p.initial_run_count;
    finished_count = f.finished_count;
    passed = p.passed;
    passed_slow = p.passed_slow;
    passed_timed_out = p.passed_timed_out;
    flaky = f.flaky;
    failed = f.failed;
    failed_slow = f.failed_slow;
    failed_timed_out = f.failed_timed_out;
    leaky = p.leaky;
    leaky_failed = p.leaky_failed;
    exec_failed = f.exec_failed;
    skipped = s.skipped;
    cancel_reason = cancel_reason;
  })

pub record IsRunStats (s : RunStats) : Type 0 where
  pub first_counts : AreFirstCounts s
  pub middle_counts : AreMiddleCounts s
  pub last_counts : AreLastCounts s
