-- When two tests are the same, and which tests a list names.
use Rattle.std.specs.List.{list_any}
use Rattle.std.specs.Prelude.{ℕ, List, ◌&&◌, Bool}
use Rattle.std.specs.Str.{bytes_eq}
use Rattle.rec_events.specs.declared.instances.OwnedTestInstanceId.{OwnedTestInstanceId}
use Rattle.rec_events.specs.declared.recording.TestListSummary.{TestListSummary}

abbrev pub test_eq : OwnedTestInstanceId → OwnedTestInstanceId → Bool
test_eq s t = bytes_eq s.binary_id t.binary_id && bytes_eq s.test_name t.test_name

-- a test of this name under its binary
abbrev pub test_of : List ℕ → List ℕ → OwnedTestInstanceId
test_of binary name = record { binary_id = binary; test_name = name }

-- it is one of these tests of a binary
abbrev pub is_named : List ℕ → List (List ℕ) → OwnedTestInstanceId → Bool
is_named binary names t = list_any (λ name. test_eq (test_of binary name) t) names

-- a list names it
abbrev pub is_listed : TestListSummary → OwnedTestInstanceId → Bool
is_listed tests t = list_any (λ suite. is_named suite.0 suite.1 t) tests.suites
