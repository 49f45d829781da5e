-- The values and forms of what was built.
use Rattle.std.specs.Prelude.{ℕ, List, [], ◌∷◌, Option, Some, option_and_then, codes}
use Rattle.serde_json.specs.Data.{Data, string}
use Rattle.serde_json.specs.Find.{as_object, as_str}
use Rattle.rec_forms.specs.Selections.{build_scope_value, build_scope_form, IsBuildScope}
use Rattle.rec_forms.specs.Shape.{◌>>=◌, field, struct, required, named}
use Rattle.rec_format.specs.declared.scope.BuildKind.TheVariants.{Cargo, Reused}
use Rattle.rec_format.specs.declared.scope.BuildKind.{BuildKind}
use Rattle.rec_format.specs.declared.scope.RecordedBuildScope.{RecordedBuildScope}

abbrev pub build_kind_name : BuildKind → List ℕ
build_kind_name Cargo = codes "cargo"
build_kind_name Reused = codes "reused"

abbrev pub build_kind_value : BuildKind → Data
build_kind_value k = string (build_kind_name k)

abbrev pub build_kinds : List (List ℕ × BuildKind)
build_kinds = (codes "cargo", Cargo) ∷ (codes "reused", Reused) ∷ []

unfoldable pub build_kind_form : Data → Option BuildKind
build_kind_form d = option_and_then (named build_kinds) (as_str d)

abbrev pub recorded_scope_value : RecordedBuildScope → Data
recorded_scope_value s =
    struct (field (codes "build-kind") (build_kind_value s.build_kind)
    ∷ field (codes "scope") (build_scope_value s.scope) ∷ [])

unfoldable pub recorded_scope_form : Data → Option RecordedBuildScope
recorded_scope_form d = do
  ms ← as_object d
  build_kind ← required build_kind_form (codes "build-kind") ms
  scope ← required build_scope_form (codes "scope") ms
  Some (record { build_kind = build_kind; scope = scope })

pub record IsRecordedScope (s : RecordedBuildScope) : Type 0 where
  pub scope : IsBuildScope s.scope
