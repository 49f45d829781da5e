-- What of a list of tests is to run again.
use Rattle.std.specs.List.{filter, flat_map, list_any}
use Rattle.std.specs.Prelude.{◌≡◌, ℕ, ◌&&◌, Bool, false, not, List, [], ◌∷◌, map}
use Rattle.rec_events.specs.declared.instances.OwnedTestInstanceId.{OwnedTestInstanceId}
use Rattle.rec_events.specs.declared.recording.TestListSummary.{TestListSummary}
use Rattle.rec_events.specs.Tests.{is_listed, test_eq, test_of}
use Rattle.rec_format.specs.declared.rerun.RerunInfo.{RerunInfo}
use Rattle.rec_format.specs.declared.suites.RerunTestSuiteInfo.{RerunTestSuiteInfo}
use Rattle.rec_rerun.specs.Suites.{has_outstanding, has_passing}

abbrev pub is_in : List OwnedTestInstanceId → OwnedTestInstanceId → Bool
is_in tests t = list_any (λ test. test_eq test t) tests

-- each test once, at its first place
abbrev pub firsts : List OwnedTestInstanceId → List OwnedTestInstanceId
firsts [] = []
firsts (test ∷ more) = test ∷ filter (λ t. not (test_eq test t)) (firsts more)

-- the tests of these binaries
abbrev pub tests_in : List (List ℕ × List (List ℕ)) → List OwnedTestInstanceId
tests_in suites = flat_map (λ suite. map (test_of suite.0) suite.1) suites

-- the tests of a list by their binaries, each once
abbrev pub listed : TestListSummary → List OwnedTestInstanceId
listed list = firsts (tests_in list.suites)

-- the outstanding tests by their binaries and names
abbrev pub outstanding_in : List RerunTestSuiteInfo → List OwnedTestInstanceId
outstanding_in suites = flat_map (λ suite. map (test_of suite.binary_id) suite.outstanding) suites

module _ (info : RerunInfo) (list : TestListSummary) where
  -- the tests of the list that haven't passed
  abbrev pub run_of : List OwnedTestInstanceId
  run_of = filter (λ t. not (has_passing info.test_suites t)) (listed list)

  -- those that have passed
  abbrev pub skip_of : List OwnedTestInstanceId
  skip_of = filter (has_passing info.test_suites) (listed list)

  -- the outstanding tests that the list lacks
  abbrev pub gone_of : List OwnedTestInstanceId
  gone_of = filter (λ t. not (is_listed list t)) (outstanding_in info.test_suites)

-- no test is passing and outstanding
abbrev pub AreApart : List RerunTestSuiteInfo → Type 0
AreApart suites =
    (t : OwnedTestInstanceId) → (has_passing suites t && has_outstanding suites t) ≡ false
