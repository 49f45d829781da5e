-- Test suites in a map by the strings of their binary ids.
use Rattle.std.specs.declared.alloc.Global.{Global}
use Rattle.std.specs.List.{AllByRecursion}
use Rattle.std.specs.Prelude.{◌≡◌, List, map, String, string_bytes}
use Rattle.rec_format.specs.declared.suites.RerunTestSuiteInfo.{RerunTestSuiteInfo}

abbrev pub suites_in : List (String Global × RerunTestSuiteInfo) → List RerunTestSuiteInfo
suites_in entries = map (λ e. e.1) entries

-- each suite stands at its own id
abbrev pub AreNamed : List (String Global × RerunTestSuiteInfo) → Type 0
AreNamed = AllByRecursion (λ e. string_bytes e.0 ≡ e.1.binary_id)
