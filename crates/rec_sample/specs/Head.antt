-- The head of a generated session of n tests.
use Rattle.std.specs.List.{filter, range_with_len}
use Rattle.std.specs.Prelude.{ℕ, ◌%◌, ◌==◌, min, List, [], map, None, codes}
use Rattle.rec_events.specs.declared.recording.NextestRunMode.TheVariants.{Test}
use Rattle.rec_events.specs.declared.recording.TestListSummary.{TestListSummary}
use Rattle.rec_events.specs.declared.selections.BuildScope.{BuildScope}
use Rattle.rec_events.specs.Selections.{
  no_package_selection,
  no_target_selection,
  no_feature_selection,
}
use Rattle.rec_format.specs.declared.head.SessionHead.{SessionHead}
use Rattle.rec_format.specs.declared.scope.BuildKind.TheVariants.{Cargo}
use Rattle.rec_format.specs.declared.scope.RecordedBuildScope.{RecordedBuildScope}
use Rattle.rec_format.specs.declared.status.RecordedRunStatus.TheVariants.{Incomplete}
use Rattle.rec_sample.specs.Instants.{run_start, instant}
use Rattle.rec_sample.specs.Kinds.{run_id}
use Rattle.rec_sample.specs.Names.{binary_id, test_name}

-- ---- the test list

-- the tests of the binary k: every fourth, in rising order
abbrev pub binary_tests : ℕ → ℕ → List ℕ
binary_tests n k = filter (λ i. i % 4 == k) (range_with_len 0 n)

abbrev pub suite : ℕ → ℕ → List ℕ × List (List ℕ)
suite n k = (binary_id k, map test_name (binary_tests n k))

-- those of the four binaries that have a test; the binary k has its first test where n is above k
unfoldable pub test_list : ℕ → TestListSummary
test_list n = record { suites = map (suite n) (range_with_len 0 (min n 4)) }

-- ---- the head

-- nothing is said of what was built
abbrev pub no_scope : BuildScope
no_scope = record {
  packages = no_package_selection;
  targets = no_target_selection;
  features = no_feature_selection;
}

abbrev pub build_scope : RecordedBuildScope
build_scope = record { build_kind = Cargo; scope = no_scope }

unfoldable pub sample_head : ℕ → SessionHead
sample_head n = record {
  run_id = run_id;
  nextest_version = (0, 9, 111, [], []);
  started_at = run_start;
  last_written_at = instant 1011 0;
  duration = None;
  cli_args = [];
  env_vars = [];
  parent_run_id = None;
  status = Incomplete;
  cargo_metadata = codes "{}";
  test_list = test_list n;
  record_opts = record { run_mode = Test };
  build_scope = build_scope;
  rerun_info = None;
}
