-- The values and forms of what ends a stress run, and how far it got.
use Rattle.std.specs.Prelude.{ℕ, ◌^◌, ◌<◌, [], ◌∷◌, Option, Some, None, option_map, IfSome, codes}
use Rattle.serde_json.specs.Data.{Data, null}
use Rattle.serde_json.specs.Find.{as_object}
use Rattle.rec_events.specs.declared.stress.StressConditionSummary.TheVariants.{Count, Duration}
use Rattle.rec_events.specs.declared.stress.StressConditionSummary.{StressConditionSummary}
use Rattle.rec_events.specs.declared.stress.StressProgress.TheVariants as progress
use Rattle.rec_events.specs.declared.stress.StressProgress.{StressProgress}
use Rattle.rec_forms.specs.Numbers.{u32_form}
use Rattle.rec_forms.specs.Shape.{◌>>=◌, natural, field, optional, struct}
use Rattle.rec_forms.specs.Shape.{required, maybe, tagged, variant, if_there}
use Rattle.rec_forms.specs.Times.{duration_value, duration_form, IsDuration}

-- StressConditionSummary

-- a count that may be null
abbrev pub count_or_null : Option ℕ → Data
count_or_null None = null
count_or_null (Some n) = natural n

abbrev pub stress_condition_value : StressConditionSummary → Data
stress_condition_value (Count count) = tagged (codes "count") (count_or_null count)
stress_condition_value (Duration duration) = tagged (codes "duration") (duration_value duration)

abbrev pub stress_count_form : Data → Option StressConditionSummary
stress_count_form d = option_map Count (if_there u32_form d)

abbrev pub stress_duration_form : Data → Option StressConditionSummary
stress_duration_form d = option_map Duration (duration_form d)

unfoldable pub stress_condition_form : Data → Option StressConditionSummary
stress_condition_form =
    variant [] ((codes "count", stress_count_form) ∷ (codes "duration", stress_duration_form) ∷ [])

abbrev pub IsStressCondition : StressConditionSummary → Type 0
IsStressCondition (Count count) = IfSome count (λ n. n < 2 ^ 32)
IsStressCondition (Duration duration) = IsDuration duration

-- StressProgress
abbrev pub stress_progress_value : StressProgress → Data
stress_progress_value (progress.Count total elapsed completed) =
    tagged (codes "count") (struct (
    optional (codes "total") natural total
    ∷ field (codes "elapsed") (duration_value elapsed)
    ∷ field (codes "completed") (natural completed)
    ∷ []))
stress_progress_value (progress.Time total elapsed completed) =
    tagged (codes "time") (struct (
    field (codes "total") (duration_value total)
    ∷ field (codes "elapsed") (duration_value elapsed)
    ∷ field (codes "completed") (natural completed)
    ∷ []))

unfoldable pub count_progress_form : Data → Option StressProgress
count_progress_form d = do
  ms ← as_object d
  total ← maybe u32_form (codes "total") ms
  elapsed ← required duration_form (codes "elapsed") ms
  completed ← required u32_form (codes "completed") ms
  Some (progress.Count total elapsed completed)

unfoldable pub time_progress_form : Data → Option StressProgress
time_progress_form d = do
  ms ← as_object d
  total ← required duration_form (codes "total") ms
  elapsed ← required duration_form (codes "elapsed") ms
  completed ← required u32_form (codes "completed") ms
  Some (progress.Time total elapsed completed)

unfoldable pub stress_progress_form : Data → Option StressProgress
stress_progress_form =
    variant [] ((codes "count", count_progress_form) ∷ (codes "time", time_progress_form) ∷ [])

abbrev pub IsStressProgress : StressProgress → Type 0
IsStressProgress (progress.Count total elapsed completed) =
    IfSome total (λ n. n < 2 ^ 32) × IsDuration elapsed × (completed < 2 ^ 32)
IsStressProgress (progress.Time total elapsed completed) =
    IsDuration total × IsDuration elapsed × (completed < 2 ^ 32)
