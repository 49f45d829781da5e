-- A new key goes last, and a key that is there leads to its suite.
use Rattle.std.proofs.Common.{◌≡◌, ℕ, false, List, [], ◌∷◌, ◌++◌, Some, Result, Ok, Err, IfOk, OnOk}
use Rattle.std.proofs.Common.{position, slice_index_or, slice_set, ◌&&◌, ap, refl, subst, ◌∙◌}
use Rattle.std.specs.List.{list_any}
use Rattle.std.specs.Option.{option_eq}
use Rattle.indexmap.specs.IndexSet.{insert_key}
use Rattle.rec_junit.specs.contracts.suite_keys.SuiteKeyPartialEq.TheImpl as derived
use Rattle.rec_junit.specs.contracts.suite_keys.SuiteSubjectPartialEq.TheImpl as subjects
use Rattle.rec_junit.specs.declared.report.JunitSuite.{JunitSuite}
use Rattle.rec_junit.specs.declared.suite_keys.SuiteKey.{SuiteKey}
use Rattle.rec_junit.specs.declared.suite_keys.SuiteSubject.TheVariants.{Script, Binary}
use Rattle.rec_junit.specs.declared.suite_keys.SuiteSubject.{SuiteSubject}
use Rattle.rec_junit.specs.declared.suites.Addition.{Addition}
use Rattle.rec_junit.specs.Suites.{Suites, same_key, same_stress, same_subject}
use Rattle.rec_junit.specs.Suites.{new_suite, with_addition, with_more}

-- ---- the derived test of keys is that of the definitions

same_subjects : (s t : SuiteSubject) → subjects.eq-value.it s t ≡ same_subject s t
same_subjects (Script s) (Script t) = refl
same_subjects (Script s) (Binary t) = refl
same_subjects (Binary s) (Script t) = refl
same_subjects (Binary s) (Binary t) = refl

same_keys : (k j : SuiteKey) → derived.eq-value.it k j ≡ same_key k j
same_keys k j =
    ap (λ b. b && option_eq same_stress k.stress_index j.stress_index)
    (same_subjects k.subject j.subject)

pub keys : derived.eq-value.it ≡ same_key
keys = λ i k j. same_keys k j i

-- ---- adding

-- what holds of the value at Ok holds of what was unwrapped
pub ok_fact : {A E : Type 0} (P : A → Type 0) (r : Result A E) (x : A) → r ≡ Ok x → IfOk r P → P x
ok_fact P r x is h = subst (λ s. IfOk s P) is h

-- what follows from a fact at Ok
pub ok_then : {A E P Q : Type 0} (r : Result A E) → (P → Q) → OnOk r P → OnOk r Q
ok_then (Ok x) f p = f p
ok_then (Err e) f p = tt

pub insert_key-new : (ks old : List SuiteKey) (k : SuiteKey) → ks ≡ old
    → list_any (same_key k) old ≡ false → insert_key derived.eq-value.it ks k ≡ old ++ (k ∷ [])
insert_key-new ks old k same new = ap (λ eq. insert_key eq ks k) keys ∙ rw (same, new) refl

pub with_addition-there : (a : Addition) (ss : Suites) (keys : List SuiteKey)
    (suites now : List JunitSuite) (i : ℕ)
    → record { keys = keys; suites = suites } ≡ ss
    → position (same_key a.key) keys ≡ Some i
    → now ≡ slice_set suites i
    (with_more a.case a.properties (slice_index_or suites i (new_suite a.key a.case a.properties)))
    → record { keys = keys; suites = now } ≡ with_addition a ss
with_addition-there a ss keys suites now i is there set =
    subst (λ (s : Suites). record { keys = keys; suites = now } ≡ with_addition a s) is
    (rw (there, set) refl)
