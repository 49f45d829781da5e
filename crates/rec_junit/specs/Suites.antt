-- The suites of a report, in the order in which they first got a case.
use Rattle.std.specs.Fmt.{decimal}
use Rattle.std.specs.Option.{option_eq}
use Rattle.std.specs.Prelude.{ℕ, nat_eq, ◌&&◌, Bool, false, List, [], ◌∷◌, ◌++◌, codes, Option}
use Rattle.std.specs.Prelude.{Some, None, option_map, bytes_eq, slice_set, slice_index_or, position}
use Rattle.rec_events.specs.declared.live_stress.StressIndex.{StressIndex}
use Rattle.rec_junit.specs.declared.report.JunitCase.{JunitCase}
use Rattle.rec_junit.specs.declared.report.JunitProperty.{JunitProperty}
use Rattle.rec_junit.specs.declared.report.JunitSuite.{JunitSuite}
use Rattle.rec_junit.specs.declared.suite_keys.StressKey.{StressKey}
use Rattle.rec_junit.specs.declared.suite_keys.SuiteKey.{SuiteKey}
use Rattle.rec_junit.specs.declared.suite_keys.SuiteSubject.TheVariants.{Script, Binary}
use Rattle.rec_junit.specs.declared.suite_keys.SuiteSubject.{SuiteSubject}
use Rattle.rec_junit.specs.declared.suites.Addition.{Addition}

-- ---- keys: a script or a binary, in one run of a stress run

abbrev pub stress_key : StressIndex → StressKey
stress_key i = record { current = i.current; total = i.total }

abbrev pub key_of : SuiteSubject → Option StressIndex → SuiteKey
key_of subject stress = record { subject = subject; stress_index = option_map stress_key stress }

abbrev pub same_subject : SuiteSubject → SuiteSubject → Bool
same_subject (Script s) (Script t) = bytes_eq s t
same_subject (Binary s) (Binary t) = bytes_eq s t
same_subject _ _ = false

abbrev pub same_stress : StressKey → StressKey → Bool
same_stress i j = nat_eq i.current j.current && option_eq nat_eq i.total j.total

abbrev pub same_key : SuiteKey → SuiteKey → Bool
same_key k j =
    same_subject k.subject j.subject && option_eq same_stress k.stress_index j.stress_index

-- ---- names

abbrev pub subject_name : SuiteSubject → List ℕ
subject_name (Script id) = codes "@setup-script:" ++ id
subject_name (Binary id) = id

abbrev pub stress_suffix : Option StressKey → List ℕ
stress_suffix None = []
stress_suffix (Some i) = codes "@stress-" ++ decimal i.current

abbrev pub suite_name : SuiteKey → List ℕ
suite_name k = subject_name k.subject ++ stress_suffix k.stress_index

-- ---- suites

-- the suites so far, and the key of each
pub record Suites : Type 0 where
  pub keys : List SuiteKey
  pub suites : List JunitSuite

abbrev pub no_suites : Suites
no_suites = record { keys = []; suites = [] }

-- a suite with a case more, and with these properties after its own
abbrev pub with_more : JunitCase → List JunitProperty → JunitSuite → JunitSuite
with_more case properties s = record {
  name = s.name;
  cases = s.cases ++ (case ∷ []);
  properties = s.properties ++ properties;
}

abbrev pub new_suite : SuiteKey → JunitCase → List JunitProperty → JunitSuite
new_suite key case properties =
    record { name = suite_name key; cases = case ∷ []; properties = properties }

abbrev pub with_addition_at : Addition → Suites → Option ℕ → Suites
with_addition_at a ss None = record {
  keys = ss.keys ++ (a.key ∷ []);
  suites = ss.suites ++ (new_suite a.key a.case a.properties ∷ []);
}
with_addition_at a ss (Some i) =
    record {
      keys = ss.keys;
      suites =
          slice_set ss.suites i (with_more a.case a.properties
          (slice_index_or ss.suites i (new_suite a.key a.case a.properties)));
    }

-- a case more in the suite of its key, or in a new one at the end
abbrev pub with_addition : Addition → Suites → Suites
with_addition a ss = with_addition_at a ss (position (same_key a.key) ss.keys)
