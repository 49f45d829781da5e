-- A run list reads back, and is writable.
use Rattle.std.proofs.Common.{arith}
use Rattle.std.specs.Prelude.{◌≡◌, [], Some, refl, codes}
use Rattle.rec_forms.specs.GivesWellFormed.{GivesWellFormed}
use Rattle.rec_forms.specs.ListLaws.{each_back, maybe_back}
use Rattle.rec_forms.specs.Lists.{list_form}
use Rattle.rec_forms.specs.Members.{get_member-members_of}
use Rattle.rec_forms.specs.NumberLaws.{u32_back, u32_writable, u32_well_formed}
use Rattle.rec_forms.specs.Numbers.{u32_form}
use Rattle.rec_forms.specs.TimeLaws.{stamp_back, stamp_writable, stamp_well_formed}
use Rattle.rec_forms.specs.Times.{stamp_value, stamp_form, IsStamp}
use Rattle.rec_forms.specs.WellFormedLaws.{object_then, required_then, maybe_then}
use Rattle.rec_forms.specs.WellFormedLaws.{defaulted_then, list_well_formed}
use Rattle.rec_forms.specs.Writable.{IsWritable, weaker, struct_writable}
use Rattle.rec_forms.specs.Writable.{list_writable, optional_writable}
use Rattle.rec_format.specs.declared.run_list.RecordedRunList.{RecordedRunList}
use Rattle.rec_format.specs.RunFormLaws.{run_back, run_writable, run_well_formed}
use Rattle.rec_format.specs.RunForms.{run_value, run_form, IsRun}
use Rattle.rec_format.specs.RunListForms.{run_list_value, run_list_form, IsRunList}

pub run_list_back : (l : RecordedRunList) → IsRunList l → run_list_form (run_list_value l) ≡ Some l
unfolding run_list_form
run_list_back l is =
    simp (
      get_member-members_of,
      u32_back _ is.format_version,
      maybe_back IsStamp stamp_value stamp_form stamp_back stamp_writable l.last_pruned_at
          is.last_pruned_at,
      each_back IsRun run_value run_form run_back _ is.runs,
    )

pub run_list_writable : (l : RecordedRunList) → IsRunList l → IsWritable 5 (run_list_value l)
run_list_writable l is =
    struct_writable _ refl (
      u32_writable l.format_version is.format_version,
      (
        optional_writable stamp_value (λ s s_is. weaker 1 4 (omega arith) (stamp_writable s s_is))
            l.last_pruned_at is.last_pruned_at,
        (list_writable run_value run_writable l.runs is.runs, tt),
      ),
    )

-- ---- what is read is well-formed

pub run_list_well_formed : GivesWellFormed IsRunList run_list_form
unfolding run_list_form
run_list_well_formed = record {
  each = λ d.
      object_then d _ (λ ms.
      required_then u32_form (codes "format-version") ms _ u32_well_formed
      (λ format_version format_version_is.
      maybe_then stamp_form (codes "last-pruned-at") ms _ stamp_well_formed
      (λ last_pruned_at last_pruned_at_is.
      defaulted_then (list_form run_form) (codes "runs") ms [] _ tt
      (list_well_formed run_form run_well_formed) (λ runs runs_is.
      record {
        is = record {
          format_version = format_version_is;
          last_pruned_at = last_pruned_at_is;
          runs = runs_is;
        };
      }))));
}
