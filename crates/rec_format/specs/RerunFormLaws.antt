-- What a rerun is a rerun of reads back, and is writable.
use Rattle.std.proofs.Common.{arith}
use Rattle.std.specs.Prelude.{◌≡◌, Some, refl, codes}
use Rattle.rec_forms.specs.GivesWellFormed.{GivesWellFormed}
use Rattle.rec_forms.specs.IdLaws.{uuid_back, uuid_writable, uuid_well_formed}
use Rattle.rec_forms.specs.Ids.{uuid_form}
use Rattle.rec_forms.specs.Members.{get_member-members_of}
use Rattle.rec_forms.specs.WellFormedLaws.{object_then, required_then}
use Rattle.rec_forms.specs.Writable.{IsWritable, weaker, struct_writable}
use Rattle.rec_format.specs.declared.rerun.RerunInfo.{RerunInfo}
use Rattle.rec_format.specs.declared.rerun.RerunRootInfo.{RerunRootInfo}
use Rattle.rec_format.specs.RerunForms.{rerun_root_value, rerun_root_form, IsRerunRoot}
use Rattle.rec_format.specs.RerunForms.{rerun_info_value, rerun_info_form, IsRerunInfo}
use Rattle.rec_format.specs.ScopeFormLaws.{
  recorded_scope_back,
  recorded_scope_writable,
  recorded_scope_well_formed,
}
use Rattle.rec_format.specs.ScopeForms.{recorded_scope_form}
use Rattle.rec_format.specs.SuiteFormLaws.{suites_back, suites_writable, suites_well_formed}
use Rattle.rec_format.specs.SuiteForms.{suites_form}

pub rerun_root_back : (r : RerunRootInfo) → IsRerunRoot r
    → rerun_root_form (rerun_root_value r) ≡ Some r
unfolding rerun_root_form
rerun_root_back r h =
    simp (get_member-members_of, uuid_back _ h.run_id, recorded_scope_back _ h.build_scope)

pub rerun_root_writable : (r : RerunRootInfo) → IsRerunRoot r → IsWritable 6 (rerun_root_value r)
rerun_root_writable r h =
    struct_writable _ refl (
      weaker 0 5 (omega arith) (uuid_writable r.run_id h.run_id),
      (recorded_scope_writable r.build_scope h.build_scope, tt),
    )

pub rerun_info_back : (r : RerunInfo) → IsRerunInfo r
    → rerun_info_form (rerun_info_value r) ≡ Some r
unfolding rerun_info_form
rerun_info_back r h = simp (
  get_member-members_of,
  uuid_back _ h.parent_run_id,
  rerun_root_back _ h.root_info,
  suites_back _ h.test_suites,
)

pub rerun_info_writable : (r : RerunInfo) → IsRerunInfo r → IsWritable 7 (rerun_info_value r)
rerun_info_writable r h =
    struct_writable _ refl (
      weaker 0 6 (omega arith) (uuid_writable r.parent_run_id h.parent_run_id),
      (
        rerun_root_writable r.root_info h.root_info,
        (weaker 3 6 (omega arith) (suites_writable r.test_suites h.test_suites), tt),
      ),
    )

-- ---- what is read is well-formed

pub rerun_root_well_formed : GivesWellFormed IsRerunRoot rerun_root_form
unfolding rerun_root_form
rerun_root_well_formed = record {
  each = λ d.
      object_then d _ (λ ms.
      required_then uuid_form (codes "run-id") ms _ uuid_well_formed (λ run_id run_id_is.
      required_then recorded_scope_form (codes "build-scope") ms _ recorded_scope_well_formed
      (λ build_scope build_scope_is.
      record { is = record { run_id = run_id_is; build_scope = build_scope_is } })));
}

pub rerun_info_well_formed : GivesWellFormed IsRerunInfo rerun_info_form
unfolding rerun_info_form
rerun_info_well_formed = record {
  each = λ d.
      object_then d _ (λ ms.
      required_then uuid_form (codes "parent-run-id") ms _ uuid_well_formed
      (λ parent_run_id parent_run_id_is.
      required_then rerun_root_form (codes "root-info") ms _ rerun_root_well_formed
      (λ root_info root_info_is.
      required_then suites_form (codes "test-suites") ms _ suites_well_formed
      (λ test_suites test_suites_is.
      record {
        is = record {
          parent_run_id = parent_run_id_is;
          root_info = root_info_is;
          test_suites = test_suites_is;
        };
      }))));
}
