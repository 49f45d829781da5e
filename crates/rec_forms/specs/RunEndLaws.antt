-- How a run ended reads back, and is writable.
use Rattle.std.proofs.Common.{arith}
use Rattle.std.specs.Prelude.{◌≡◌, Some, refl, codes, [], ◌∷◌}
use Rattle.rec_events.specs.declared.run_ends.FinalRunStats.TheVariants.{Success, NoTestsRun}
use Rattle.rec_events.specs.declared.run_ends.FinalRunStats.TheVariants.{Failed, Cancelled}
use Rattle.rec_events.specs.declared.run_ends.FinalRunStats.{FinalRunStats}
use Rattle.rec_events.specs.declared.run_ends.RunFinishedStats.TheVariants.{Single, Stress}
use Rattle.rec_events.specs.declared.run_ends.RunFinishedStats.{RunFinishedStats}
use Rattle.rec_events.specs.declared.run_ends.StressFinalRunStats.TheVariants as stress
use Rattle.rec_events.specs.declared.run_ends.StressFinalRunStats.{StressFinalRunStats}
use Rattle.rec_events.specs.declared.run_ends.StressRunStats.{StressRunStats}
use Rattle.rec_events.specs.declared.run_ends.TestsNotSeenSummary.{TestsNotSeenSummary}
use Rattle.rec_forms.specs.GivesWellFormed.{GivesWellFormed}
use Rattle.rec_forms.specs.InstanceLaws.{stress_index_back, stress_index_writable}
use Rattle.rec_forms.specs.InstanceLaws.{test_instance_back, test_instance_writable}
use Rattle.rec_forms.specs.InstanceLaws.{stress_index_well_formed, test_instance_well_formed}
use Rattle.rec_forms.specs.Instances.{test_instance_value, test_instance_form}
use Rattle.rec_forms.specs.Instances.{IsTestInstance, stress_index_form}
use Rattle.rec_forms.specs.ListLaws.{list_back}
use Rattle.rec_forms.specs.Lists.{list_form}
use Rattle.rec_forms.specs.Members.{get_member-members_of}
use Rattle.rec_forms.specs.NumberLaws.{u32_back, u64_back, u32_writable}
use Rattle.rec_forms.specs.NumberLaws.{u32_well_formed, u64_well_formed}
use Rattle.rec_forms.specs.Numbers.{u32_form, u64_form}
use Rattle.rec_forms.specs.RunEnds.{stress_final_stats_value, stress_final_stats_form}
use Rattle.rec_forms.specs.RunEnds.{final_stats_value, final_stats_form, stress_run_stats_value}
use Rattle.rec_forms.specs.RunEnds.{stress_run_stats_form, IsStressRunStats}
use Rattle.rec_forms.specs.RunEnds.{run_finished_stats_value, run_finished_stats_form}
use Rattle.rec_forms.specs.RunEnds.{IsRunFinishedStats, tests_not_seen_value, tests_not_seen_form}
use Rattle.rec_forms.specs.RunEnds.{IsTestsNotSeen, single_stats_form, stress_stats_form}
use Rattle.rec_forms.specs.Stats.{run_stats_form}
use Rattle.rec_forms.specs.StatsLaws.{run_stats_back, run_stats_writable, run_stats_well_formed}
use Rattle.rec_forms.specs.WellFormedLaws.{any_well_formed, map_holds, object_then}
use Rattle.rec_forms.specs.WellFormedLaws.{required_then, list_well_formed, variant_well_formed}
use Rattle.rec_forms.specs.Writable.{IsWritable, weaker, struct_writable, tagged_writable}
use Rattle.rec_forms.specs.Writable.{list_writable, natural_writable, word_writable}

pub final_stats_back : (x : FinalRunStats) → final_stats_form (final_stats_value x) ≡ Some x
unfolding final_stats_form
final_stats_back Success = refl
final_stats_back NoTestsRun = refl
final_stats_back Failed = refl
final_stats_back Cancelled = refl

pub final_stats_writable : (x : FinalRunStats) → IsWritable 0 (final_stats_value x)
final_stats_writable Success = word_writable _ refl
final_stats_writable NoTestsRun = word_writable _ refl
final_stats_writable Failed = word_writable _ refl
final_stats_writable Cancelled = word_writable _ refl

pub stress_final_stats_back : (x : StressFinalRunStats)
    → stress_final_stats_form (stress_final_stats_value x) ≡ Some x
unfolding stress_final_stats_form
stress_final_stats_back stress.Success = refl
stress_final_stats_back stress.NoTestsRun = refl
stress_final_stats_back stress.Failed = refl
stress_final_stats_back stress.Cancelled = refl

pub stress_final_stats_writable : (x : StressFinalRunStats)
    → IsWritable 0 (stress_final_stats_value x)
stress_final_stats_writable stress.Success = word_writable _ refl
stress_final_stats_writable stress.NoTestsRun = word_writable _ refl
stress_final_stats_writable stress.Failed = word_writable _ refl
stress_final_stats_writable stress.Cancelled = word_writable _ refl

pub stress_run_stats_back : (s : StressRunStats) → IsStressRunStats s
    → stress_run_stats_form (stress_run_stats_value s) ≡ Some s
unfolding stress_run_stats_form
stress_run_stats_back s h =
    simp (
      get_member-members_of,
      stress_index_back s.completed h.completed,
      u32_back s.success_count h.success_count,
      u32_back s.failed_count h.failed_count,
      final_stats_back s.last_final_stats,
    )

pub stress_run_stats_writable : (s : StressRunStats) → IsStressRunStats s
    → IsWritable 2 (stress_run_stats_value s)
stress_run_stats_writable s h =
    struct_writable _ refl (
      stress_index_writable s.completed h.completed,
      (
        u32_writable s.success_count h.success_count,
        (
          u32_writable s.failed_count h.failed_count,
          (weaker 0 1 (omega arith) (final_stats_writable s.last_final_stats), tt),
        ),
      ),
    )

pub run_finished_stats_back : (s : RunFinishedStats) → IsRunFinishedStats s
    → run_finished_stats_form (run_finished_stats_value s) ≡ Some s
unfolding run_finished_stats_form
run_finished_stats_back (Single s) h = rw (run_stats_back s h)
run_finished_stats_back (Stress s) h = rw (stress_run_stats_back s h)

pub run_finished_stats_writable : (s : RunFinishedStats) → IsRunFinishedStats s
    → IsWritable 3 (run_finished_stats_value s)
run_finished_stats_writable (Single s) h =
    tagged_writable (codes "single") _ refl (weaker 1 2 (omega arith) (run_stats_writable s h))
run_finished_stats_writable (Stress s) h =
    tagged_writable (codes "stress") _ refl (stress_run_stats_writable s h)

pub tests_not_seen_back : (t : TestsNotSeenSummary) → IsTestsNotSeen t
    → tests_not_seen_form (tests_not_seen_value t) ≡ Some t
unfolding tests_not_seen_form
tests_not_seen_back t h =
    simp (
      get_member-members_of,
      list_back IsTestInstance test_instance_value test_instance_form test_instance_back t.not_seen
          h.not_seen,
      u64_back t.total_not_seen h.total_not_seen,
    )

pub tests_not_seen_writable : (t : TestsNotSeenSummary) → IsTestsNotSeen t
    → IsWritable 3 (tests_not_seen_value t)
tests_not_seen_writable t h =
    struct_writable _ refl (
      list_writable test_instance_value test_instance_writable t.not_seen h.not_seen,
      (natural_writable t.total_not_seen h.total_not_seen, tt),
    )

-- ---- what is read is well-formed

pub stress_run_stats_well_formed : GivesWellFormed IsStressRunStats stress_run_stats_form
unfolding stress_run_stats_form
stress_run_stats_well_formed = record {
  each = λ d.
      object_then d _ (λ ms.
      required_then stress_index_form (codes "completed") ms _ stress_index_well_formed
      (λ completed completed_is.
      required_then u32_form (codes "success-count") ms _ u32_well_formed
      (λ success_count success_count_is.
      required_then u32_form (codes "failed-count") ms _ u32_well_formed
      (λ failed_count failed_count_is.
      required_then final_stats_form (codes "last-final-stats") ms _
      (any_well_formed final_stats_form) (λ last_final_stats last_final_stats_is.
      record {
        is = record {
          completed = completed_is;
          success_count = success_count_is;
          failed_count = failed_count_is;
        };
      })))));
}

single_stats_well_formed : GivesWellFormed IsRunFinishedStats single_stats_form
single_stats_well_formed = record {
  each = λ d. map_holds Single (run_stats_form d) (run_stats_well_formed.each d) (λ stats is. is);
}

stress_stats_well_formed : GivesWellFormed IsRunFinishedStats stress_stats_form
stress_stats_well_formed = record {
  each =
      λ d. map_holds Stress (stress_run_stats_form d) (stress_run_stats_well_formed.each d)
      (λ stats is. is);
}

pub run_finished_stats_well_formed : GivesWellFormed IsRunFinishedStats run_finished_stats_form
unfolding run_finished_stats_form
run_finished_stats_well_formed =
    variant_well_formed IsRunFinishedStats []
    ((codes "single", single_stats_form) ∷ (codes "stress", stress_stats_form) ∷ []) tt
    (single_stats_well_formed, (stress_stats_well_formed, tt))

pub tests_not_seen_well_formed : GivesWellFormed IsTestsNotSeen tests_not_seen_form
unfolding tests_not_seen_form
tests_not_seen_well_formed = record {
  each = λ d.
      object_then d _ (λ ms.
      required_then (list_form test_instance_form) (codes "not-seen") ms _
      (list_well_formed test_instance_form test_instance_well_formed) (λ not_seen not_seen_is.
      required_then u64_form (codes "total-not-seen") ms _ u64_well_formed
      (λ total_not_seen total_not_seen_is.
      record { is = record { not_seen = not_seen_is; total_not_seen = total_not_seen_is } })));
}
