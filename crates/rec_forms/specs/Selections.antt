-- The values and forms of what is built.
use Rattle.std.specs.Prelude.{false, [], ◌∷◌, Option, Some, codes}
use Rattle.serde_json.specs.Data.{Data, string, boolean}
use Rattle.serde_json.specs.Find.{as_object, as_bool}
use Rattle.rec_events.specs.declared.selections.BuildScope.{BuildScope}
use Rattle.rec_events.specs.declared.selections.FeatureSelection.{FeatureSelection}
use Rattle.rec_events.specs.declared.selections.NamedTargets.{NamedTargets}
use Rattle.rec_events.specs.declared.selections.PackageSelection.{PackageSelection}
use Rattle.rec_events.specs.declared.selections.TargetSelection.{TargetSelection}
use Rattle.rec_events.specs.Names.{AreTexts}
use Rattle.rec_events.specs.Selections.{no_named_targets, no_package_selection}
use Rattle.rec_events.specs.Selections.{no_target_selection, no_feature_selection}
use Rattle.rec_forms.specs.Lists.{list_value, list_form}
use Rattle.rec_forms.specs.Shape.{◌>>=◌, field, struct, defaulted, text_of}

-- NamedTargets
abbrev pub named_targets_value : NamedTargets → Data
named_targets_value t =
    struct
    (field (codes "names") (list_value string t.names) ∷ field (codes "all") (boolean t.all) ∷ [])

unfoldable pub named_targets_form : Data → Option NamedTargets
named_targets_form d = do
  ms ← as_object d
  names ← defaulted [] (list_form text_of) (codes "names") ms
  all ← defaulted false as_bool (codes "all") ms
  Some (record { names = names; all = all })

pub record IsNamedTargets (t : NamedTargets) : Type 0 where
  pub names : AreTexts t.names

-- PackageSelection
abbrev pub package_selection_value : PackageSelection → Data
package_selection_value s = struct (
    field (codes "specs") (list_value string s.specs)
    ∷ field (codes "workspace") (boolean s.workspace)
    ∷ field (codes "exclude") (list_value string s.exclude)
    ∷ [])

unfoldable pub package_selection_form : Data → Option PackageSelection
package_selection_form d = do
  ms ← as_object d
  specs ← defaulted [] (list_form text_of) (codes "specs") ms
  workspace ← defaulted false as_bool (codes "workspace") ms
  exclude ← defaulted [] (list_form text_of) (codes "exclude") ms
  Some (record { specs = specs; workspace = workspace; exclude = exclude })

pub record IsPackageSelection (s : PackageSelection) : Type 0 where
  pub specs : AreTexts s.specs
  pub exclude : AreTexts s.exclude

-- TargetSelection
abbrev pub target_selection_value : TargetSelection → Data
target_selection_value s = struct (
    field (codes "lib") (boolean s.lib)
    ∷ field (codes "bins") (named_targets_value s.bins)
    ∷ field (codes "examples") (named_targets_value s.examples)
    ∷ field (codes "tests") (named_targets_value s.tests)
    ∷ field (codes "benches") (named_targets_value s.benches)
    ∷ field (codes "all-targets") (boolean s.all_targets)
    ∷ [])

unfoldable pub target_selection_form : Data → Option TargetSelection
target_selection_form d = do
  ms ← as_object d
  lib ← defaulted false as_bool (codes "lib") ms
  all_targets ← defaulted false as_bool (codes "all-targets") ms
  bins ← defaulted no_named_targets named_targets_form (codes "bins") ms
  examples ← defaulted no_named_targets named_targets_form (codes "examples") ms
  tests ← defaulted no_named_targets named_targets_form (codes "tests") ms
  benches ← defaulted no_named_targets named_targets_form (codes "benches") ms
  Some (record {
    lib = lib;
    bins = bins;
    examples = examples;
    tests = tests;
    benches = benches;
    all_targets = all_targets;
  })

pub record IsTargetSelection (s : TargetSelection) : Type 0 where
  pub bins : IsNamedTargets s.bins
  pub examples : IsNamedTargets s.examples
  pub tests : IsNamedTargets s.tests
  pub benches : IsNamedTargets s.benches

-- FeatureSelection
abbrev pub feature_selection_value : FeatureSelection → Data
feature_selection_value s = struct (
    field (codes "features") (list_value string s.features)
    ∷ field (codes "all-features") (boolean s.all_features)
    ∷ field (codes "no-default-features") (boolean s.no_default_features)
    ∷ [])

unfoldable pub feature_selection_form : Data → Option FeatureSelection
feature_selection_form d = do
  ms ← as_object d
  features ← defaulted [] (list_form text_of) (codes "features") ms
  all_features ← defaulted false as_bool (codes "all-features") ms
  no_default_features ← defaulted false as_bool (codes "no-default-features") ms
  Some (record {
    features = features;
    all_features = all_features;
    no_default_features = no_default_features;
  })

pub record IsFeatureSelection (s : FeatureSelection) : Type 0 where
  pub features : AreTexts s.features

-- BuildScope
abbrev pub build_scope_value : BuildScope → Data
build_scope_value s = struct (
    field (codes "packages") (package_selection_value s.packages)
    ∷ field (codes "targets") (target_selection_value s.targets)
    ∷ field (codes "features") (feature_selection_value s.features)
    ∷ [])

unfoldable pub build_scope_form : Data → Option BuildScope
build_scope_form d = do
  ms ← as_object d
  packages ← defaulted no_package_selection package_selection_form (codes "packages") ms
  targets ← defaulted no_target_selection target_selection_form (codes "targets") ms
  features ← defaulted no_feature_selection feature_selection_form (codes "features") ms
  Some (record { packages = packages; targets = targets; features = features })

pub record IsBuildScope (s : BuildScope) : Type 0 where
  pub packages : IsPackageSelection s.packages
  pub targets : IsTargetSelection s.targets
  pub features : IsFeatureSelection s.features
