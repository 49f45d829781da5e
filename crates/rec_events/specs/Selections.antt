-- The selections that say nothing.
use Rattle.std.specs.Prelude.{false, []}
use Rattle.rec_events.specs.declared.selections.FeatureSelection.{FeatureSelection}
use Rattle.rec_events.specs.declared.selections.NamedTargets.{NamedTargets}
use Rattle.rec_events.specs.declared.selections.PackageSelection.{PackageSelection}
use Rattle.rec_events.specs.declared.selections.TargetSelection.{TargetSelection}

abbrev pub no_named_targets : NamedTargets
no_named_targets = record { names = []; all = false }

abbrev pub no_package_selection : PackageSelection
no_package_selection = record { specs = []; workspace = false; exclude = [] }

abbrev pub no_target_selection : TargetSelection
no_target_selection = record {
  lib = false;
  bins = no_named_targets;
  examples = no_named_targets;
  tests = no_named_targets;
  benches = no_named_targets;
  all_targets = false;
}

abbrev pub no_feature_selection : FeatureSelection
no_feature_selection = record { features = []; all_features = false; no_default_features = false }
