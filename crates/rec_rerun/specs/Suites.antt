-- The tests that suites have among the passing ones, and among the outstanding ones.
use Rattle.std.specs.BTreeMap.{BTreeMap, get_by_text}
use Rattle.std.specs.declared.alloc.Global.{Global}
use Rattle.std.specs.List.{AllByRecursion, list_any}
use Rattle.std.specs.Prelude.{◌≡◌, ◌⊎◌, [], ℕ, ◌+◌, ◌<◌, Bool, true, false, not}
use Rattle.std.specs.Prelude.{List, length, Option, Some, None, String, bytes_eq}
use Rattle.rec_events.specs.declared.instances.OwnedTestInstanceId.{OwnedTestInstanceId}
use Rattle.rec_events.specs.Names.{Rise}
use Rattle.rec_events.specs.Tests.{is_named}
use Rattle.rec_format.specs.declared.suites.RerunTestSuiteInfo.{RerunTestSuiteInfo}
use Rattle.rec_format.specs.Suites.{SuitesRise, put_suite}
use Rattle.rec_rerun.specs.declared.standings.Standing.TheVariants.{Known, Started}
use Rattle.rec_rerun.specs.declared.standings.Standing.{Standing}
use Rattle.rec_rerun.specs.Standings.{Tests, at}

-- the passing tests of a suite, or the outstanding ones
abbrev pub names_of : Bool → RerunTestSuiteInfo → List (List ℕ)
names_of true suite = suite.passing
names_of false suite = suite.outstanding

-- whether a suite has the test among its passing ones, or among its outstanding ones
abbrev pub holds : Bool → List RerunTestSuiteInfo → OwnedTestInstanceId → Bool
holds passed suites t =
    list_any (λ suite. is_named suite.binary_id (names_of passed suite) t) suites

abbrev pub has_passing : List RerunTestSuiteInfo → OwnedTestInstanceId → Bool
has_passing = holds true

abbrev pub has_outstanding : List RerunTestSuiteInfo → OwnedTestInstanceId → Bool
has_outstanding = holds false

-- both sets are in order, and not both are empty
pub record IsFull (suite : RerunTestSuiteInfo) : Type 0 where
  pub passing : Rise suite.passing
  pub outstanding : Rise suite.outstanding
  pub some : 0 < length suite.passing + length suite.outstanding

-- ---- of standings

abbrev pub is_so : Bool → Bool → Bool
is_so true passed = passed
is_so false passed = not passed

-- a test that has passed, or one that hasn't
abbrev pub stands : Bool → Option Standing → Bool
stands passed None = false
stands passed (Some (Known before)) = is_so passed before
stands passed (Some (Started well)) = is_so passed well

-- one of these names
abbrev pub has : List (List ℕ) → List ℕ → Bool
has names name = list_any (λ n. bytes_eq n name) names

-- the suite of a binary whose tests stand so
pub record IsSuiteOf (binary : List ℕ) (tests : BTreeMap (String Global) Standing)
    (suite : RerunTestSuiteInfo) : Type 0 where
  pub binary_id : suite.binary_id ≡ binary
  pub names : (passed : Bool) (name : List ℕ)
      → has (names_of passed suite) name ≡ stands passed (get_by_text tests name)
  pub full : IsFull suite

-- the suite of a binary is put at its place, where the binary has a test
abbrev pub AddsSuite : List ℕ → BTreeMap (String Global) Standing → List RerunTestSuiteInfo
    → List RerunTestSuiteInfo → Type 0
AddsSuite binary tests old new =
    ((tests.entries ≡ []) × (new ≡ old))
    ⊎ ((suite : RerunTestSuiteInfo) × IsSuiteOf binary tests suite × (new ≡ put_suite suite old))

-- the suites of all tests
pub record AreSuitesOf (tests : Tests) (suites : List RerunTestSuiteInfo) : Type 0 where
  pub rise : SuitesRise suites
  pub full : AllByRecursion IsFull suites
  pub held : (passed : Bool) (t : OwnedTestInstanceId)
      → holds passed suites t ≡ stands passed (at tests t)
