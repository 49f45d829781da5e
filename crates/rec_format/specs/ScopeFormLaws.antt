-- What was built reads back, and is writable.
use Rattle.std.proofs.Common.{arith}
use Rattle.std.specs.Prelude.{◌≡◌, Some, refl, codes}
use Rattle.rec_forms.specs.GivesWellFormed.{GivesWellFormed}
use Rattle.rec_forms.specs.Members.{get_member-members_of}
use Rattle.rec_forms.specs.SelectionLaws.{
  build_scope_back,
  build_scope_writable,
  build_scope_well_formed,
}
use Rattle.rec_forms.specs.Selections.{build_scope_form}
use Rattle.rec_forms.specs.WellFormedLaws.{object_then, required_then, any_well_formed}
use Rattle.rec_forms.specs.Writable.{IsWritable, weaker, struct_writable, word_writable}
use Rattle.rec_format.specs.declared.scope.BuildKind.TheVariants.{Cargo, Reused}
use Rattle.rec_format.specs.declared.scope.BuildKind.{BuildKind}
use Rattle.rec_format.specs.declared.scope.RecordedBuildScope.{RecordedBuildScope}
use Rattle.rec_format.specs.ScopeForms.{build_kind_value, build_kind_form, recorded_scope_value}
use Rattle.rec_format.specs.ScopeForms.{recorded_scope_form, IsRecordedScope}

pub build_kind_back : (k : BuildKind) → build_kind_form (build_kind_value k) ≡ Some k
unfolding build_kind_form
build_kind_back Cargo = refl
build_kind_back Reused = refl

pub build_kind_writable : (k : BuildKind) → IsWritable 0 (build_kind_value k)
build_kind_writable Cargo = word_writable _ refl
build_kind_writable Reused = word_writable _ refl

pub recorded_scope_back : (s : RecordedBuildScope) → IsRecordedScope s
    → recorded_scope_form (recorded_scope_value s) ≡ Some s
unfolding recorded_scope_form
recorded_scope_back s h =
    simp (get_member-members_of, build_kind_back s.build_kind, build_scope_back _ h.scope)

pub recorded_scope_writable : (s : RecordedBuildScope) → IsRecordedScope s
    → IsWritable 5 (recorded_scope_value s)
recorded_scope_writable s h = struct_writable _ refl (
  weaker 0 4 (omega arith) (build_kind_writable s.build_kind),
  (build_scope_writable s.scope h.scope, tt),
)

-- ---- what is read is well-formed

pub recorded_scope_well_formed : GivesWellFormed IsRecordedScope recorded_scope_form
unfolding recorded_scope_form
recorded_scope_well_formed = record {
  each = λ d.
      object_then d _ (λ ms.
      required_then build_kind_form (codes "build-kind") ms _ (any_well_formed build_kind_form)
      (λ build_kind build_kind_is.
      required_then build_scope_form (codes "scope") ms _ build_scope_well_formed (λ scope scope_is.
      record { is = record { scope = scope_is } })));
}
