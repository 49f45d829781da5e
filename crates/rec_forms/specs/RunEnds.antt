-- The values and forms of how a run ended.
use Rattle.std.specs.List.{AllByRecursion}
use Rattle.std.specs.Prelude.{ℕ, ◌^◌, ◌<◌, List, [], ◌∷◌, Option, Some}
use Rattle.std.specs.Prelude.{option_map, option_and_then, codes}
use Rattle.serde_json.specs.Data.{Data, string}
use Rattle.serde_json.specs.Find.{as_object, as_str}
use Rattle.rec_events.specs.declared.run_ends.FinalRunStats.TheVariants.{Success, NoTestsRun}
use Rattle.rec_events.specs.declared.run_ends.FinalRunStats.TheVariants.{Failed, Cancelled}
use Rattle.rec_events.specs.declared.run_ends.FinalRunStats.{FinalRunStats}
use Rattle.rec_events.specs.declared.run_ends.RunFinishedStats.TheVariants.{Single, Stress}
use Rattle.rec_events.specs.declared.run_ends.RunFinishedStats.{RunFinishedStats}
use Rattle.rec_events.specs.declared.run_ends.StressFinalRunStats.TheVariants as stress
use Rattle.rec_events.specs.declared.run_ends.StressFinalRunStats.{StressFinalRunStats}
use Rattle.rec_events.specs.declared.run_ends.StressRunStats.{StressRunStats}
use Rattle.rec_events.specs.declared.run_ends.TestsNotSeenSummary.{TestsNotSeenSummary}
use Rattle.rec_forms.specs.Instances.{stress_index_value, stress_index_form, IsStressIndex}
use Rattle.rec_forms.specs.Instances.{test_instance_value, test_instance_form, IsTestInstance}
use Rattle.rec_forms.specs.Lists.{list_value, list_form}
use Rattle.rec_forms.specs.Numbers.{u32_form, u64_form}
use Rattle.rec_forms.specs.Shape.{◌>>=◌, natural, field, struct, required, named, tagged, variant}
use Rattle.rec_forms.specs.Stats.{run_stats_value, run_stats_form, IsRunStats}

-- FinalRunStats
abbrev pub final_stats_name : FinalRunStats → List ℕ
final_stats_name Success = codes "success"
final_stats_name NoTestsRun = codes "no-tests-run"
final_stats_name Failed = codes "failed"
final_stats_name Cancelled = codes "cancelled"

abbrev pub final_stats_value : FinalRunStats → Data
final_stats_value x = string (final_stats_name x)

abbrev pub final_stats : List (List ℕ × FinalRunStats)
final_stats =
    (codes "success", Success)
    ∷ (codes "no-tests-run", NoTestsRun)
    ∷ (codes "failed", Failed)
    ∷ (codes "cancelled", Cancelled)
    ∷ []

unfoldable pub final_stats_form : Data → Option FinalRunStats
final_stats_form d = option_and_then (named final_stats) (as_str d)

-- StressFinalRunStats
abbrev pub stress_final_stats_name : StressFinalRunStats → List ℕ
stress_final_stats_name stress.Success = codes "success"
stress_final_stats_name stress.NoTestsRun = codes "no-tests-run"
stress_final_stats_name stress.Failed = codes "failed"
stress_final_stats_name stress.Cancelled = codes "cancelled"

abbrev pub stress_final_stats_value : StressFinalRunStats → Data
stress_final_stats_value x = string (stress_final_stats_name x)

abbrev pub stress_final_stats : List (List ℕ × StressFinalRunStats)
stress_final_stats =
    (codes "success", stress.Success)
    ∷ (codes "no-tests-run", stress.NoTestsRun)
    ∷ (codes "failed", stress.Failed)
    ∷ (codes "cancelled", stress.Cancelled)
    ∷ []

unfoldable pub stress_final_stats_form : Data → Option StressFinalRunStats
stress_final_stats_form d = option_and_then (named stress_final_stats) (as_str d)

-- StressRunStats
abbrev pub stress_run_stats_value : StressRunStats → Data
stress_run_stats_value s = struct (
    field (codes "completed") (stress_index_value s.completed)
    ∷ field (codes "success-count") (natural s.success_count)
    ∷ field (codes "failed-count") (natural s.failed_count)
    ∷ field (codes "last-final-stats") (final_stats_value s.last_final_stats)
    ∷ [])

unfoldable pub stress_run_stats_form : Data → Option StressRunStats
stress_run_stats_form d = do
  ms ← as_object d
  completed ← required stress_index_form (codes "completed") ms
  success_count ← required u32_form (codes "success-count") ms
  failed_count ← required u32_form (codes "failed-count") ms
  last_final_stats ← required final_stats_form (codes "last-final-stats") ms
  Some (record {
    completed = completed;
    success_count = success_count;
    failed_count = failed_count;
    last_final_stats = last_final_stats;
  })

pub record IsStressRunStats (s : StressRunStats) : Type 0 where
  pub completed : IsStressIndex s.completed
  pub success_count : s.success_count < 2 ^ 32
  pub failed_count : s.failed_count < 2 ^ 32

-- RunFinishedStats
abbrev pub run_finished_stats_value : RunFinishedStats → Data
run_finished_stats_value (Single s) = tagged (codes "single") (run_stats_value s)
run_finished_stats_value (Stress s) = tagged (codes "stress") (stress_run_stats_value s)

abbrev pub single_stats_form : Data → Option RunFinishedStats
single_stats_form d = option_map Single (run_stats_form d)

abbrev pub stress_stats_form : Data → Option RunFinishedStats
stress_stats_form d = option_map Stress (stress_run_stats_form d)

unfoldable pub run_finished_stats_form : Data → Option RunFinishedStats
run_finished_stats_form =
    variant [] ((codes "single", single_stats_form) ∷ (codes "stress", stress_stats_form) ∷ [])

abbrev pub IsRunFinishedStats : RunFinishedStats → Type 0
IsRunFinishedStats (Single s) = IsRunStats s
IsRunFinishedStats (Stress s) = IsStressRunStats s

-- TestsNotSeenSummary
abbrev pub tests_not_seen_value : TestsNotSeenSummary → Data
tests_not_seen_value t =
    struct (field (codes "not-seen") (list_value test_instance_value t.not_seen)
    ∷ field (codes "total-not-seen") (natural t.total_not_seen) ∷ [])

unfoldable pub tests_not_seen_form : Data → Option TestsNotSeenSummary
tests_not_seen_form d = do
  ms ← as_object d
  not_seen ← required (list_form test_instance_form) (codes "not-seen") ms
  total_not_seen ← required u64_form (codes "total-not-seen") ms
  Some (record { not_seen = not_seen; total_not_seen = total_not_seen })

pub record IsTestsNotSeen (t : TestsNotSeenSummary) : Type 0 where
  pub not_seen : AllByRecursion IsTestInstance t.not_seen
  pub total_not_seen : t.total_not_seen < 2 ^ 64
