-- The values and forms of what a rerun is a rerun of.
use Rattle.std.specs.Prelude.{[], ◌∷◌, Option, Some, codes}
use Rattle.serde_json.specs.Data.{Data}
use Rattle.serde_json.specs.Find.{as_object}
use Rattle.rec_forms.specs.Ids.{uuid_value, uuid_form, IsUuid}
use Rattle.rec_forms.specs.Shape.{◌>>=◌, field, struct, required}
use Rattle.rec_format.specs.declared.rerun.RerunInfo.{RerunInfo}
use Rattle.rec_format.specs.declared.rerun.RerunRootInfo.{RerunRootInfo}
use Rattle.rec_format.specs.ScopeForms.{recorded_scope_value, recorded_scope_form, IsRecordedScope}
use Rattle.rec_format.specs.SuiteForms.{suites_value, suites_form, AreSuites}

abbrev pub rerun_root_value : RerunRootInfo → Data
rerun_root_value r =
    struct (field (codes "run-id") (uuid_value r.run_id)
    ∷ field (codes "build-scope") (recorded_scope_value r.build_scope) ∷ [])

unfoldable pub rerun_root_form : Data → Option RerunRootInfo
rerun_root_form d = do
  ms ← as_object d
  run_id ← required uuid_form (codes "run-id") ms
  build_scope ← required recorded_scope_form (codes "build-scope") ms
  Some (record { run_id = run_id; build_scope = build_scope })

pub record IsRerunRoot (r : RerunRootInfo) : Type 0 where
  pub run_id : IsUuid r.run_id
  pub build_scope : IsRecordedScope r.build_scope

abbrev pub rerun_info_value : RerunInfo → Data
rerun_info_value r = struct (
    field (codes "parent-run-id") (uuid_value r.parent_run_id)
    ∷ field (codes "root-info") (rerun_root_value r.root_info)
    ∷ field (codes "test-suites") (suites_value r.test_suites)
    ∷ [])

unfoldable pub rerun_info_form : Data → Option RerunInfo
rerun_info_form d = do
  ms ← as_object d
  parent_run_id ← required uuid_form (codes "parent-run-id") ms
  root_info ← required rerun_root_form (codes "root-info") ms
  test_suites ← required suites_form (codes "test-suites") ms
  Some (record { parent_run_id = parent_run_id; root_info = root_info; test_suites = test_suites })

pub record IsRerunInfo (r : RerunInfo) : Type 0 where
  pub parent_run_id : IsUuid r.parent_run_id
  pub root_info : IsRerunRoot r.root_info
  pub test_suites : AreSuites r.test_suites
