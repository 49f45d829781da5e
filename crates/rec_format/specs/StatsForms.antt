-- The values and forms of the statistics of runs that ended.
use Rattle.std.specs.Int.{w32}
use Rattle.std.specs.Prelude.{◌^◌, ◌<◌, FitsSigned, List, [], ◌∷◌, Option, Some, IfSome, codes}
use Rattle.serde_json.specs.Data.{Data, Members}
use Rattle.serde_json.specs.Find.{as_object}
use Rattle.rec_forms.specs.Numbers.{u32_form, u64_form, i32_form, count_form, IsCount}
use Rattle.rec_forms.specs.Shape.{◌>>=◌, Field, natural, integer, field}
use Rattle.rec_forms.specs.Shape.{optional, struct, required, maybe}
use Rattle.rec_format.specs.declared.status.CompletedRunStats.{CompletedRunStats}
use Rattle.rec_format.specs.declared.status.StressCompletedRunStats.{StressCompletedRunStats}

-- ---- of a run

abbrev pub completed_fields : CompletedRunStats → List Field
completed_fields s =
    field (codes "initial-run-count") (natural s.initial_run_count)
    ∷ field (codes "passed") (natural s.passed)
    ∷ field (codes "failed") (natural s.failed)
    ∷ field (codes "exit-code") (integer s.exit_code)
    ∷ []

unfoldable pub completed_form : Members → Option CompletedRunStats
completed_form ms = do
  initial_run_count ← required u64_form (codes "initial-run-count") ms
  passed ← required u64_form (codes "passed") ms
  failed ← required u64_form (codes "failed") ms
  exit_code ← required i32_form (codes "exit-code") ms
  Some (record {
    initial_run_count = initial_run_count;
    passed = passed;
    failed = failed;
    exit_code = exit_code;
  })

pub record AreCompleted (s : CompletedRunStats) : Type 0 where
  pub initial_run_count : s.initial_run_count < 2 ^ 64
  pub passed : s.passed < 2 ^ 64
  pub failed : s.failed < 2 ^ 64
  pub exit_code : FitsSigned w32 s.exit_code

-- by themselves they are an object
abbrev pub completed_stats_value : CompletedRunStats → Data
completed_stats_value s = struct (completed_fields s)

unfoldable pub completed_stats_form : Data → Option CompletedRunStats
completed_stats_form d = do
  ms ← as_object d
  completed_form ms

-- ---- of a stress run

abbrev pub stress_fields : StressCompletedRunStats → List Field
stress_fields s =
    optional (codes "initial-iteration-count") natural s.initial_iteration_count
    ∷ field (codes "success-count") (natural s.success_count)
    ∷ field (codes "failed-count") (natural s.failed_count)
    ∷ field (codes "exit-code") (integer s.exit_code)
    ∷ []

unfoldable pub stress_form : Members → Option StressCompletedRunStats
stress_form ms = do
  initial_iteration_count ← maybe count_form (codes "initial-iteration-count") ms
  success_count ← required u32_form (codes "success-count") ms
  failed_count ← required u32_form (codes "failed-count") ms
  exit_code ← required i32_form (codes "exit-code") ms
  Some (record {
    initial_iteration_count = initial_iteration_count;
    success_count = success_count;
    failed_count = failed_count;
    exit_code = exit_code;
  })

pub record AreStress (s : StressCompletedRunStats) : Type 0 where
  pub initial_iteration_count : IfSome s.initial_iteration_count IsCount
  pub success_count : s.success_count < 2 ^ 32
  pub failed_count : s.failed_count < 2 ^ 32
  pub exit_code : FitsSigned w32 s.exit_code

-- by themselves they are an object
abbrev pub stress_stats_value : StressCompletedRunStats → Data
stress_stats_value s = struct (stress_fields s)

unfoldable pub stress_stats_form : Data → Option StressCompletedRunStats
stress_stats_form d = do
  ms ← as_object d
  stress_form ms
