-- The statistics of runs that ended read back, and are writable.
use Rattle.std.specs.Prelude.{◌≡◌, Some, refl, codes}
use Rattle.serde_json.specs.Data.{Members}
use Rattle.rec_forms.specs.GivesWellFormed.{Holds, GivesWellFormed}
use Rattle.rec_forms.specs.ListLaws.{maybe_back}
use Rattle.rec_forms.specs.Members.{get_member-members_of}
use Rattle.rec_forms.specs.NumberLaws.{u32_back, u64_back, i32_back, count_back, u32_writable}
use Rattle.rec_forms.specs.NumberLaws.{i32_writable, count_writable, count_well_formed}
use Rattle.rec_forms.specs.NumberLaws.{i32_well_formed, u32_well_formed, u64_well_formed}
use Rattle.rec_forms.specs.Numbers.{count_form, IsCount, i32_form, u32_form, u64_form}
use Rattle.rec_forms.specs.Shape.{natural}
use Rattle.rec_forms.specs.WellFormedLaws.{object_then, required_then, maybe_then}
use Rattle.rec_forms.specs.Writable.{IsWritable, EachWritten, struct_writable}
use Rattle.rec_forms.specs.Writable.{natural_writable, optional_writable}
use Rattle.rec_format.specs.declared.status.CompletedRunStats.{CompletedRunStats}
use Rattle.rec_format.specs.declared.status.StressCompletedRunStats.{StressCompletedRunStats}
use Rattle.rec_format.specs.StatsForms.{completed_fields, completed_form}
use Rattle.rec_format.specs.StatsForms.{completed_stats_value, completed_stats_form}
use Rattle.rec_format.specs.StatsForms.{AreCompleted, stress_fields, stress_form}
use Rattle.rec_format.specs.StatsForms.{stress_stats_value, stress_stats_form, AreStress}

pub completed_stats_back : (s : CompletedRunStats) → AreCompleted s
    → completed_stats_form (completed_stats_value s) ≡ Some s
unfolding completed_stats_form completed_form
completed_stats_back s h =
    simp (
      get_member-members_of,
      u64_back _ h.initial_run_count,
      u64_back _ h.passed,
      u64_back _ h.failed,
      i32_back _ h.exit_code,
    )

pub completed_written : (s : CompletedRunStats) → AreCompleted s
    → EachWritten 0 (completed_fields s)
completed_written s h = (
  natural_writable s.initial_run_count h.initial_run_count,
  (
    natural_writable s.passed h.passed,
    (
      natural_writable s.failed h.failed,
      (i32_writable s.exit_code h.exit_code, tt),
    ),
  ),
)

pub completed_stats_writable : (s : CompletedRunStats) → AreCompleted s
    → IsWritable 1 (completed_stats_value s)
completed_stats_writable s h = struct_writable (completed_fields s) refl (completed_written s h)

pub stress_stats_back : (s : StressCompletedRunStats) → AreStress s
    → stress_stats_form (stress_stats_value s) ≡ Some s
unfolding stress_stats_form stress_form
stress_stats_back s h =
    simp (
      get_member-members_of,
      maybe_back IsCount natural count_form count_back (count_writable {n = 0})
          s.initial_iteration_count h.initial_iteration_count,
      u32_back _ h.success_count,
      u32_back _ h.failed_count,
      i32_back _ h.exit_code,
    )

pub stress_written : (s : StressCompletedRunStats) → AreStress s → EachWritten 0 (stress_fields s)
stress_written s h = (
  optional_writable natural count_writable s.initial_iteration_count h.initial_iteration_count,
  (
    u32_writable s.success_count h.success_count,
    (
      u32_writable s.failed_count h.failed_count,
      (i32_writable s.exit_code h.exit_code, tt),
    ),
  ),
)

pub stress_stats_writable : (s : StressCompletedRunStats) → AreStress s
    → IsWritable 1 (stress_stats_value s)
stress_stats_writable s h = struct_writable (stress_fields s) refl (stress_written s h)

-- ---- what is read is well-formed

pub completed_well_formed : (ms : Members) → Holds AreCompleted (completed_form ms)
unfolding completed_form
completed_well_formed ms =
    required_then u64_form (codes "initial-run-count") ms _ u64_well_formed
    (λ initial_run_count initial_run_count_is.
    required_then u64_form (codes "passed") ms _ u64_well_formed (λ passed passed_is.
    required_then u64_form (codes "failed") ms _ u64_well_formed (λ failed failed_is.
    required_then i32_form (codes "exit-code") ms _ i32_well_formed (λ exit_code exit_code_is.
    record {
      is = record {
        initial_run_count = initial_run_count_is;
        passed = passed_is;
        failed = failed_is;
        exit_code = exit_code_is;
      };
    }))))

pub stress_well_formed : (ms : Members) → Holds AreStress (stress_form ms)
unfolding stress_form
stress_well_formed ms =
    maybe_then count_form (codes "initial-iteration-count") ms _ count_well_formed
    (λ initial_iteration_count initial_iteration_count_is.
    required_then u32_form (codes "success-count") ms _ u32_well_formed
    (λ success_count success_count_is.
    required_then u32_form (codes "failed-count") ms _ u32_well_formed
    (λ failed_count failed_count_is.
    required_then i32_form (codes "exit-code") ms _ i32_well_formed (λ exit_code exit_code_is.
    record {
      is = record {
        initial_iteration_count = initial_iteration_count_is;
        success_count = success_count_is;
        failed_count = failed_count_is;
        exit_code = exit_code_is;
      };
    }))))

pub completed_stats_well_formed : GivesWellFormed AreCompleted completed_stats_form
unfolding completed_stats_form
completed_stats_well_formed =
    record { each = λ d. object_then d _ (λ ms. completed_well_formed ms) }

pub stress_stats_well_formed : GivesWellFormed AreStress stress_stats_form
unfolding stress_stats_form
stress_stats_well_formed = record { each = λ d. object_then d _ (λ ms. stress_well_formed ms) }
