-- The values and forms of test suites.
use Rattle.std.specs.List.{AllByRecursion}
use Rattle.std.specs.Prelude.{List, [], ◌∷◌, Option, Some, None, is_some}
use Rattle.std.specs.Prelude.{if◌then◌else◌, option_and_then, codes}
use Rattle.serde_json.specs.Data.{Data, string, Items, no_items, item}
use Rattle.serde_json.specs.Find.{as_object, as_array}
use Rattle.rec_events.specs.Names.{IsText}
use Rattle.rec_forms.specs.Lists.{list_value}
use Rattle.rec_forms.specs.Names.{names_value, names_form, AreNames}
use Rattle.rec_forms.specs.Shape.{◌>>=◌, field, struct, required, text_of}
use Rattle.rec_format.specs.declared.suites.RerunTestSuiteInfo.{RerunTestSuiteInfo}
use Rattle.rec_format.specs.Suites.{put_suite, suite_of, SuitesRise}

-- the keys of a suite have underscores
abbrev pub suite_value : RerunTestSuiteInfo → Data
suite_value s = struct (
    field (codes "binary_id") (string s.binary_id)
    ∷ field (codes "passing") (names_value s.passing)
    ∷ field (codes "outstanding") (names_value s.outstanding)
    ∷ [])

unfoldable pub suite_form : Data → Option RerunTestSuiteInfo
suite_form d = do
  ms ← as_object d
  binary_id ← required text_of (codes "binary_id") ms
  passing ← required names_form (codes "passing") ms
  outstanding ← required names_form (codes "outstanding") ms
  Some (record { binary_id = binary_id; passing = passing; outstanding = outstanding })

pub record IsSuite (s : RerunTestSuiteInfo) : Type 0 where
  pub binary_id : IsText s.binary_id
  pub passing : AreNames s.passing
  pub outstanding : AreNames s.outstanding

abbrev pub suites_value : List RerunTestSuiteInfo → Data
suites_value = list_value suite_value

-- the suites with another, whose binary none of them has
abbrev pub joined_by : List RerunTestSuiteInfo → RerunTestSuiteInfo
    → Option (List RerunTestSuiteInfo)
joined_by suites suite =
    if is_some (suite_of suite.binary_id suites) then None else Some (put_suite suite suites)

-- the items put as suites, one after another, into those that are there
abbrev pub suites_from : List RerunTestSuiteInfo → Items → Option (List RerunTestSuiteInfo)
suites_from suites no_items = Some suites
suites_from suites (item d ds) =
    option_and_then (λ s. option_and_then (λ more. suites_from more ds) (joined_by suites s))
    (suite_form d)

-- suites in any order, but no two of one binary
unfoldable pub suites_form : Data → Option (List RerunTestSuiteInfo)
suites_form d = option_and_then (suites_from []) (as_array d)

pub record AreSuites (suites : List RerunTestSuiteInfo) : Type 0 where
  pub rise : SuitesRise suites
  pub each : AllByRecursion IsSuite suites
