-- Test suites in the order of their binary ids.
use Rattle.std.specs.Cmp.Lexicographic.{slice_cmp}
use Rattle.std.specs.Ordering.{nat_cmp, match_ordering}
use Rattle.std.specs.Prelude.{ℕ, List, [], ◌∷◌, map, Option, Some, None, if◌then◌else◌}
use Rattle.std.specs.Str.{bytes_eq}
use Rattle.rec_events.specs.Names.{Rise}
use Rattle.rec_format.specs.declared.suites.RerunTestSuiteInfo.{RerunTestSuiteInfo}

-- each id is below those after it, so none comes twice
abbrev pub SuitesRise : List RerunTestSuiteInfo → Type 0
SuitesRise suites = Rise (map (λ suite. suite.binary_id) suites)

-- the suites with this one at its place
abbrev pub put_suite : RerunTestSuiteInfo → List RerunTestSuiteInfo → List RerunTestSuiteInfo
put_suite suite [] = suite ∷ []
put_suite suite (first ∷ more) =
    match_ordering (slice_cmp nat_cmp suite.binary_id first.binary_id) (suite ∷ first ∷ more)
    (suite ∷ more) (first ∷ put_suite suite more)

-- the suite of a binary
abbrev pub suite_of : List ℕ → List RerunTestSuiteInfo → Option RerunTestSuiteInfo
suite_of id [] = None
suite_of id (first ∷ more) = if bytes_eq id first.binary_id then Some first else suite_of id more
