-- What is built reads back, and is writable.
use Rattle.std.proofs.Common.{arith}
use Rattle.std.specs.Prelude.{◌≡◌, ℕ, List, Some, [], codes, false, refl}
use Rattle.serde_json.specs.Data.{string}
use Rattle.serde_json.specs.Find.{as_bool}
use Rattle.rec_events.specs.declared.selections.BuildScope.{BuildScope}
use Rattle.rec_events.specs.declared.selections.FeatureSelection.{FeatureSelection}
use Rattle.rec_events.specs.declared.selections.NamedTargets.{NamedTargets}
use Rattle.rec_events.specs.declared.selections.PackageSelection.{PackageSelection}
use Rattle.rec_events.specs.declared.selections.TargetSelection.{TargetSelection}
use Rattle.rec_events.specs.Names.{IsText, AreTexts}
use Rattle.rec_events.specs.Selections.{no_feature_selection, no_named_targets}
use Rattle.rec_events.specs.Selections.{no_package_selection, no_target_selection}
use Rattle.rec_forms.specs.GivesWellFormed.{GivesWellFormed}
use Rattle.rec_forms.specs.ListLaws.{each_back}
use Rattle.rec_forms.specs.Lists.{list_value, list_form}
use Rattle.rec_forms.specs.Members.{get_member-members_of}
use Rattle.rec_forms.specs.NumberLaws.{text_back, text_well_formed}
use Rattle.rec_forms.specs.Selections.{named_targets_value, named_targets_form}
use Rattle.rec_forms.specs.Selections.{IsNamedTargets, package_selection_value}
use Rattle.rec_forms.specs.Selections.{package_selection_form, IsPackageSelection}
use Rattle.rec_forms.specs.Selections.{target_selection_value, target_selection_form}
use Rattle.rec_forms.specs.Selections.{IsTargetSelection, feature_selection_value}
use Rattle.rec_forms.specs.Selections.{feature_selection_form, IsFeatureSelection}
use Rattle.rec_forms.specs.Selections.{build_scope_value, build_scope_form, IsBuildScope}
use Rattle.rec_forms.specs.Shape.{text_of}
use Rattle.rec_forms.specs.WellFormedLaws.{any_well_formed, object_then}
use Rattle.rec_forms.specs.WellFormedLaws.{defaulted_then, list_well_formed}
use Rattle.rec_forms.specs.Writable.{IsWritable, weaker, struct_writable}
use Rattle.rec_forms.specs.Writable.{string_writable, boolean_writable, list_writable}

pub named_targets_back : (t : NamedTargets) → IsNamedTargets t
    → named_targets_form (named_targets_value t) ≡ Some t
unfolding named_targets_form
named_targets_back t h =
    simp (get_member-members_of, each_back IsText string text_of text_back _ h.names)

texts_writable : (ss : List (List ℕ)) → AreTexts ss → IsWritable 1 (list_value string ss)
texts_writable = list_writable string string_writable

pub named_targets_writable : (t : NamedTargets) → IsNamedTargets t
    → IsWritable 2 (named_targets_value t)
named_targets_writable t h =
    struct_writable _ refl (texts_writable t.names h.names, (boolean_writable t.all, tt))

pub package_selection_back : (s : PackageSelection) → IsPackageSelection s
    → package_selection_form (package_selection_value s) ≡ Some s
unfolding package_selection_form
package_selection_back s h =
    simp (
      get_member-members_of,
      each_back IsText string text_of text_back _ h.specs,
      each_back IsText string text_of text_back _ h.exclude,
    )

pub package_selection_writable : (s : PackageSelection) → IsPackageSelection s
    → IsWritable 2 (package_selection_value s)
package_selection_writable s h =
    struct_writable _ refl (
      texts_writable s.specs h.specs,
      (boolean_writable s.workspace, (texts_writable s.exclude h.exclude, tt)),
    )

pub target_selection_back : (s : TargetSelection) → IsTargetSelection s
    → target_selection_form (target_selection_value s) ≡ Some s
unfolding target_selection_form
target_selection_back s h =
    simp (
      get_member-members_of,
      named_targets_back _ h.bins,
      named_targets_back _ h.examples,
      named_targets_back _ h.tests,
      named_targets_back _ h.benches,
    )

pub target_selection_writable : (s : TargetSelection) → IsTargetSelection s
    → IsWritable 3 (target_selection_value s)
target_selection_writable s h =
    struct_writable _ refl (
      boolean_writable s.lib,
      (
        named_targets_writable s.bins h.bins,
        (
          named_targets_writable s.examples h.examples,
          (
            named_targets_writable s.tests h.tests,
            (named_targets_writable s.benches h.benches, (boolean_writable s.all_targets, tt)),
          ),
        ),
      ),
    )

pub feature_selection_back : (s : FeatureSelection) → IsFeatureSelection s
    → feature_selection_form (feature_selection_value s) ≡ Some s
unfolding feature_selection_form
feature_selection_back s h =
    simp (get_member-members_of, each_back IsText string text_of text_back _ h.features)

pub feature_selection_writable : (s : FeatureSelection) → IsFeatureSelection s
    → IsWritable 2 (feature_selection_value s)
feature_selection_writable s h =
    struct_writable _ refl (
      texts_writable s.features h.features,
      (boolean_writable s.all_features, (boolean_writable s.no_default_features, tt)),
    )

pub build_scope_back : (s : BuildScope) → IsBuildScope s
    → build_scope_form (build_scope_value s) ≡ Some s
unfolding build_scope_form
build_scope_back s h =
    simp (
      get_member-members_of,
      package_selection_back _ h.packages,
      target_selection_back _ h.targets,
      feature_selection_back _ h.features,
    )

pub build_scope_writable : (s : BuildScope) → IsBuildScope s → IsWritable 4 (build_scope_value s)
build_scope_writable s h =
    struct_writable _ refl (
      weaker 2 3 (omega arith) (package_selection_writable s.packages h.packages),
      (
        target_selection_writable s.targets h.targets,
        (weaker 2 3 (omega arith) (feature_selection_writable s.features h.features), tt),
      ),
    )

-- ---- what is read is well-formed

no_named_targets_is : IsNamedTargets no_named_targets
no_named_targets_is = record { names = tt }

no_package_selection_is : IsPackageSelection no_package_selection
no_package_selection_is = record { specs = tt; exclude = tt }

no_target_selection_is : IsTargetSelection no_target_selection
no_target_selection_is = record {
  bins = no_named_targets_is;
  examples = no_named_targets_is;
  tests = no_named_targets_is;
  benches = no_named_targets_is;
}

no_feature_selection_is : IsFeatureSelection no_feature_selection
no_feature_selection_is = record { features = tt }

pub named_targets_well_formed : GivesWellFormed IsNamedTargets named_targets_form
unfolding named_targets_form
named_targets_well_formed = record {
  each = λ d.
      object_then d _ (λ ms.
      defaulted_then (list_form text_of) (codes "names") ms [] _ tt
      (list_well_formed text_of text_well_formed) (λ names names_is.
      defaulted_then as_bool (codes "all") ms false _ tt (any_well_formed as_bool) (λ all all_is.
      record { is = record { names = names_is } })));
}

pub package_selection_well_formed : GivesWellFormed IsPackageSelection package_selection_form
unfolding package_selection_form
package_selection_well_formed = record {
  each = λ d.
      object_then d _ (λ ms.
      defaulted_then (list_form text_of) (codes "specs") ms [] _ tt
      (list_well_formed text_of text_well_formed) (λ specs specs_is.
      defaulted_then as_bool (codes "workspace") ms false _ tt (any_well_formed as_bool)
      (λ workspace workspace_is.
      defaulted_then (list_form text_of) (codes "exclude") ms [] _ tt
      (list_well_formed text_of text_well_formed) (λ exclude exclude_is.
      record { is = record { specs = specs_is; exclude = exclude_is } }))));
}

pub target_selection_well_formed : GivesWellFormed IsTargetSelection target_selection_form
unfolding target_selection_form
target_selection_well_formed = record {
  each = λ d.
      object_then d _ (λ ms.
      defaulted_then as_bool (codes "lib") ms false _ tt (any_well_formed as_bool) (λ lib lib_is.
      defaulted_then as_bool (codes "all-targets") ms false _ tt (any_well_formed as_bool)
      (λ all_targets all_targets_is.
      defaulted_then named_targets_form (codes "bins")
      ms no_named_targets _ no_named_targets_is named_targets_well_formed (λ bins bins_is.
      defaulted_then named_targets_form (codes "examples")
      ms no_named_targets _ no_named_targets_is named_targets_well_formed (λ examples examples_is.
      defaulted_then named_targets_form (codes "tests")
      ms no_named_targets _ no_named_targets_is named_targets_well_formed (λ tests tests_is.
      defaulted_then named_targets_form (codes "benches")
      ms no_named_targets _ no_named_targets_is named_targets_well_formed (λ benches benches_is.
      record {
        is = record {
          bins = bins_is;
          examples = examples_is;
          tests = tests_is;
          benches = benches_is;
        };
      })))))));
}

pub feature_selection_well_formed : GivesWellFormed IsFeatureSelection feature_selection_form
unfolding feature_selection_form
feature_selection_well_formed = record {
  each = λ d.
      object_then d _ (λ ms.
      defaulted_then (list_form text_of) (codes "features") ms [] _ tt
      (list_well_formed text_of text_well_formed) (λ features features_is.
      defaulted_then as_bool (codes "all-features") ms false _ tt (any_well_formed as_bool)
      (λ all_features all_features_is.
      defaulted_then as_bool (codes "no-default-features") ms false _ tt (any_well_formed as_bool)
      (λ no_default_features no_default_features_is.
      record { is = record { features = features_is } }))));
}

pub build_scope_well_formed : GivesWellFormed IsBuildScope build_scope_form
unfolding build_scope_form
build_scope_well_formed = record {
  each = λ d.
      object_then d _ (λ ms.
      defaulted_then package_selection_form (codes "packages") ms no_package_selection _
      no_package_selection_is package_selection_well_formed (λ packages packages_is.
      defaulted_then target_selection_form (codes "targets") ms no_target_selection _
      no_target_selection_is target_selection_well_formed (λ targets targets_is.
      defaulted_then feature_selection_form (codes "features") ms no_feature_selection _
      no_feature_selection_is feature_selection_well_formed (λ features features_is.
      record {
        is = record { packages = packages_is; targets = targets_is; features = features_is };
      }))));
}
