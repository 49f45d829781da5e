-- Statuses read back, and are writable.
use Rattle.std.proofs.Common.{ap, ◌∙◌}
use Rattle.std.specs.List.{AllByRecursion}
use Rattle.std.specs.Option.{option_map_or}
use Rattle.std.specs.Prelude.{◌≡◌, ℕ, List, ◌∷◌, Some, option_map, refl, None, Option, codes}
use Rattle.serde_json.specs.Data.{string, Members}
use Rattle.serde_json.specs.Find.{as_str}
use Rattle.rec_events.specs.Names.{IsText}
use Rattle.rec_forms.specs.GivesWellFormed.{Holds, GivesWellFormed}
use Rattle.rec_forms.specs.ListLaws.{maybe_back}
use Rattle.rec_forms.specs.Members.{get_member-members_of}
use Rattle.rec_forms.specs.NumberLaws.{u32_back, u64_back, i32_back, count_back, count_writable}
use Rattle.rec_forms.specs.Numbers.{count_form, IsCount}
use Rattle.rec_forms.specs.Shape.{natural, field, named}
use Rattle.rec_forms.specs.TextLaws.{IsText-are_ascii}
use Rattle.rec_forms.specs.WellFormedLaws.{any_well_formed, map_holds, object_then}
use Rattle.rec_forms.specs.WellFormedLaws.{required_then, named_holds}
use Rattle.rec_forms.specs.Writable.{IsWritable, struct_writable, string_writable}
use Rattle.rec_format.specs.declared.status.CompletedRunStats.{CompletedRunStats}
use Rattle.rec_format.specs.declared.status.RecordedRunStatus.TheVariants.{
  Incomplete,
  Completed,
  Cancelled,
  StressCompleted,
  StressCancelled,
  Unknown,
}
use Rattle.rec_format.specs.declared.status.RecordedRunStatus.{RecordedRunStatus}
use Rattle.rec_format.specs.declared.status.RecordedRunStatusFormat.TheVariants as format
use Rattle.rec_format.specs.declared.status.RecordedRunStatusFormat.{RecordedRunStatusFormat}
use Rattle.rec_format.specs.declared.status.StressCompletedRunStats.{StressCompletedRunStats}
use Rattle.rec_format.specs.StatsFormLaws.{completed_written, stress_written}
use Rattle.rec_format.specs.StatsFormLaws.{completed_well_formed, stress_well_formed}
use Rattle.rec_format.specs.StatsForms.{completed_fields, completed_form, AreCompleted}
use Rattle.rec_format.specs.StatsForms.{stress_fields, stress_form, AreStress}
use Rattle.rec_format.specs.Status.{status_format, status_of}
use Rattle.rec_format.specs.StatusForms.{bare_value, completed_value, stress_value, status_value}
use Rattle.rec_format.specs.StatusForms.{status_form, IsStatus, status_format_value}
use Rattle.rec_format.specs.StatusForms.{status_format_form, IsStatusFormat, statuses}

pub status_back : (s : RecordedRunStatus) → IsStatus s → status_form (status_value s) ≡ Some s
unfolding status_form completed_form stress_form
status_back Incomplete h = simp get_member-members_of
status_back (Completed s) h =
    simp (
      get_member-members_of,
      u64_back _ h.initial_run_count,
      u64_back _ h.passed,
      u64_back _ h.failed,
      i32_back _ h.exit_code,
    )
status_back (Cancelled s) h =
    simp (
      get_member-members_of,
      u64_back _ h.initial_run_count,
      u64_back _ h.passed,
      u64_back _ h.failed,
      i32_back _ h.exit_code,
    )
status_back (StressCompleted s) h =
    simp (
      get_member-members_of,
      maybe_back IsCount natural count_form count_back (count_writable {n = 0})
          s.initial_iteration_count h.initial_iteration_count,
      u32_back _ h.success_count,
      u32_back _ h.failed_count,
      i32_back _ h.exit_code,
    )
status_back (StressCancelled s) h =
    simp (
      get_member-members_of,
      maybe_back IsCount natural count_form count_back (count_writable {n = 0})
          s.initial_iteration_count h.initial_iteration_count,
      u32_back _ h.success_count,
      u32_back _ h.failed_count,
      i32_back _ h.exit_code,
    )
status_back Unknown h = simp get_member-members_of

bare_writable : (name : List ℕ) → IsText name → IsWritable 1 (bare_value name)
bare_writable name text = struct_writable _ refl (string_writable name text, tt)

completed_writable : (name : List ℕ) (s : CompletedRunStats) → IsText name → AreCompleted s
    → IsWritable 1 (completed_value name s)
completed_writable name s text h =
    struct_writable (field (codes "status") (string name) ∷ completed_fields s) refl
    (string_writable name text, completed_written s h)

stress_writable : (name : List ℕ) (s : StressCompletedRunStats) → IsText name → AreStress s
    → IsWritable 1 (stress_value name s)
stress_writable name s text h =
    struct_writable (field (codes "status") (string name) ∷ stress_fields s) refl
    (string_writable name text, stress_written s h)

pub status_writable : (s : RecordedRunStatus) → IsStatus s → IsWritable 1 (status_value s)
status_writable Incomplete h = bare_writable _ (IsText-are_ascii _ refl)
status_writable (Completed s) h = completed_writable _ s (IsText-are_ascii _ refl) h
status_writable (Cancelled s) h = completed_writable _ s (IsText-are_ascii _ refl) h
status_writable (StressCompleted s) h = stress_writable _ s (IsText-are_ascii _ refl) h
status_writable (StressCancelled s) h = stress_writable _ s (IsText-are_ascii _ refl) h
status_writable Unknown h = bare_writable _ (IsText-are_ascii _ refl)

-- a format is that of the status that it stands for
format-of : (f : RecordedRunStatusFormat) → status_format (status_of f) ≡ f
format-of format.Incomplete = refl
format-of format.Unknown = refl
format-of (format.Completed initial_run_count passed failed exit_code) = refl
format-of (format.Cancelled initial_run_count passed failed exit_code) = refl
format-of (format.StressCompleted initial_iteration_count success_count failed_count exit_code) =
    refl
format-of (format.StressCancelled initial_iteration_count success_count failed_count exit_code) =
    refl

pub status_format_back : (f : RecordedRunStatusFormat) → IsStatusFormat f
    → status_format_form (status_format_value f) ≡ Some f
status_format_back f h =
    ap (option_map status_format) (status_back (status_of f) h) ∙ ap Some (format-of f)

pub status_format_writable : (f : RecordedRunStatusFormat) → IsStatusFormat f
    → IsWritable 1 (status_format_value f)
status_format_writable f = status_writable (status_of f)

-- ---- what is read is well-formed

-- what stands beside a name gives statuses that are well-formed
abbrev GivesStatuses : (Members → Option RecordedRunStatus) → Type 0
GivesStatuses form = (ms : Members) → Holds IsStatus (form ms)

each_well_formed : AllByRecursion
    (λ (s : List ℕ × (Members → Option RecordedRunStatus)). GivesStatuses s.1) statuses
each_well_formed = (
  λ ms. record { is = tt },
  (
    λ ms. map_holds Completed (completed_form ms) (completed_well_formed ms) (λ s is. is),
    (
      λ ms. map_holds Cancelled (completed_form ms) (completed_well_formed ms) (λ s is. is),
      (
        λ ms. map_holds StressCompleted (stress_form ms) (stress_well_formed ms) (λ s is. is),
        (λ ms. map_holds StressCancelled (stress_form ms) (stress_well_formed ms) (λ s is. is), tt),
      ),
    ),
  ),
)

with_well_formed : (o : Option (Members → Option RecordedRunStatus)) (ms : Members)
    → Holds GivesStatuses o → Holds IsStatus (option_map_or (λ form. form ms) o (Some Unknown))
with_well_formed None ms h = record { is = tt }
with_well_formed (Some form) ms h = h.is ms

pub status_well_formed : GivesWellFormed IsStatus status_form
unfolding status_form
status_well_formed = record {
  each = λ d.
      object_then d _ (λ ms.
      required_then as_str (codes "status") ms _ (any_well_formed as_str) (λ name _.
      with_well_formed (named statuses name) ms
      (named_holds GivesStatuses statuses each_well_formed name)));
}

-- a status is what its format stands for
pub of-format : (s : RecordedRunStatus) → status_of (status_format s) ≡ s
of-format Incomplete = refl
of-format (Completed s) = refl
of-format (Cancelled s) = refl
of-format (StressCompleted s) = refl
of-format (StressCancelled s) = refl
of-format Unknown = refl

pub status_format_well_formed : GivesWellFormed IsStatusFormat status_format_form
status_format_well_formed = record {
  each =
      λ d. map_holds status_format (status_form d) (status_well_formed.each d)
      (λ s is. rw (of-format s) is);
}
