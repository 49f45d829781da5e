-- What ends a stress run, and how far it got, reads back and is writable.
use Rattle.std.proofs.Common.{arith}
use Rattle.std.specs.Prelude.{◌≡◌, ◌<◌, ◌^◌, Some, None, refl, codes, [], ◌∷◌}
use Rattle.serde_json.specs.Data.{null}
use Rattle.rec_events.specs.declared.stress.StressConditionSummary.TheVariants.{Count, Duration}
use Rattle.rec_events.specs.declared.stress.StressConditionSummary.{StressConditionSummary}
use Rattle.rec_events.specs.declared.stress.StressProgress.TheVariants as progress
use Rattle.rec_events.specs.declared.stress.StressProgress.{StressProgress}
use Rattle.rec_forms.specs.GivesWellFormed.{GivesWellFormed}
use Rattle.rec_forms.specs.ListLaws.{maybe_back}
use Rattle.rec_forms.specs.Members.{get_member-members_of}
use Rattle.rec_forms.specs.NumberLaws.{u32_back, u32_writable, u32_well_formed}
use Rattle.rec_forms.specs.Numbers.{u32_form}
use Rattle.rec_forms.specs.Shape.{natural, if_there}
use Rattle.rec_forms.specs.Stress.{stress_condition_value, stress_condition_form}
use Rattle.rec_forms.specs.Stress.{IsStressCondition, stress_progress_value}
use Rattle.rec_forms.specs.Stress.{stress_progress_form, count_progress_form, time_progress_form}
use Rattle.rec_forms.specs.Stress.{IsStressProgress, stress_count_form, stress_duration_form}
use Rattle.rec_forms.specs.TextLaws.{IsText-are_ascii}
use Rattle.rec_forms.specs.TimeLaws.{duration_back, duration_writable, duration_well_formed}
use Rattle.rec_forms.specs.Times.{duration_form}
use Rattle.rec_forms.specs.WellFormedLaws.{map_holds, if_there_well_formed, object_then}
use Rattle.rec_forms.specs.WellFormedLaws.{required_then, maybe_then, variant_well_formed}
use Rattle.rec_forms.specs.Writable.{IsWritable, tagged_canonical, optional_writable}
use Rattle.rec_forms.specs.Writable.{struct_writable, tagged_writable}

pub stress_condition_back : (c : StressConditionSummary) → IsStressCondition c
    → stress_condition_form (stress_condition_value c) ≡ Some c
unfolding stress_condition_form
stress_condition_back (Count None) h = refl
stress_condition_back (Count (Some n)) h = rw (u32_back n h)
stress_condition_back (Duration duration) h = rw (duration_back duration h)

pub stress_condition_writable : (c : StressConditionSummary) → IsStressCondition c
    → IsWritable 2 (stress_condition_value c)
stress_condition_writable (Count None) h = record {
  some = λ e. cc e;
  canonical = tagged_canonical (codes "count") null (IsText-are_ascii (codes "count") refl) tt;
  whole = refl;
  shallow = omega arith;
}
stress_condition_writable (Count (Some n)) h =
    tagged_writable (codes "count") _ refl (u32_writable n h)
stress_condition_writable (Duration duration) h =
    tagged_writable (codes "duration") _ refl (duration_writable duration h)

pub stress_progress_back : (p : StressProgress) → IsStressProgress p
    → stress_progress_form (stress_progress_value p) ≡ Some p
unfolding stress_progress_form count_progress_form time_progress_form
stress_progress_back (progress.Count total elapsed completed) h =
    simp (
      get_member-members_of,
      maybe_back (λ n. n < 2 ^ 32) natural u32_form u32_back (u32_writable {n = 0}) total h.0,
      duration_back elapsed h.1,
      u32_back completed h.2,
    )
stress_progress_back (progress.Time total elapsed completed) h =
    simp (
      get_member-members_of,
      duration_back total h.0,
      duration_back elapsed h.1,
      u32_back completed h.2,
    )

pub stress_progress_writable : (p : StressProgress) → IsStressProgress p
    → IsWritable 3 (stress_progress_value p)
stress_progress_writable (progress.Count total elapsed completed) h =
    tagged_writable (codes "count") _ refl
    (struct_writable _ refl (
      optional_writable natural u32_writable total h.0,
      (duration_writable elapsed h.1, (u32_writable completed h.2, tt)),
    ))
stress_progress_writable (progress.Time total elapsed completed) h =
    tagged_writable (codes "time") _ refl (struct_writable _ refl (
      duration_writable total h.0,
      (duration_writable elapsed h.1, (u32_writable completed h.2, tt)),
    ))

-- ---- what is read is well-formed

stress_count_well_formed : GivesWellFormed IsStressCondition stress_count_form
stress_count_well_formed = record {
  each =
      λ d. map_holds Count (if_there u32_form d)
      ((if_there_well_formed u32_form u32_well_formed).each d) (λ count fits. fits);
}

stress_duration_well_formed : GivesWellFormed IsStressCondition stress_duration_form
stress_duration_well_formed = record {
  each =
      λ d.
      map_holds Duration (duration_form d) (duration_well_formed.each d) (λ duration fits. fits);
}

pub stress_condition_well_formed : GivesWellFormed IsStressCondition stress_condition_form
unfolding stress_condition_form
stress_condition_well_formed =
    variant_well_formed IsStressCondition []
    ((codes "count", stress_count_form) ∷ (codes "duration", stress_duration_form) ∷ []) tt
    (stress_count_well_formed, (stress_duration_well_formed, tt))

count_progress_well_formed : GivesWellFormed IsStressProgress count_progress_form
unfolding count_progress_form
count_progress_well_formed = record {
  each = λ d.
      object_then d _ (λ ms.
      maybe_then u32_form (codes "total") ms _ u32_well_formed (λ total total_is.
      required_then duration_form (codes "elapsed") ms _ duration_well_formed (λ elapsed elapsed_is.
      required_then u32_form (codes "completed") ms _ u32_well_formed (λ completed completed_is.
      record { is = (total_is, elapsed_is, completed_is) }))));
}

time_progress_well_formed : GivesWellFormed IsStressProgress time_progress_form
unfolding time_progress_form
time_progress_well_formed = record {
  each = λ d.
      object_then d _ (λ ms.
      required_then duration_form (codes "total") ms _ duration_well_formed (λ total total_is.
      required_then duration_form (codes "elapsed") ms _ duration_well_formed (λ elapsed elapsed_is.
      required_then u32_form (codes "completed") ms _ u32_well_formed (λ completed completed_is.
      record { is = (total_is, elapsed_is, completed_is) }))));
}

pub stress_progress_well_formed : GivesWellFormed IsStressProgress stress_progress_form
unfolding stress_progress_form
stress_progress_well_formed =
    variant_well_formed IsStressProgress []
    ((codes "count", count_progress_form) ∷ (codes "time", time_progress_form) ∷ []) tt
    (count_progress_well_formed, (time_progress_well_formed, tt))
