-- A map of test suites beside the suites that it stands for.
use Rattle.std.proofs.Common.{◌≡◌, ℕ, List, [], ◌∷◌, map, refl, sym, ◌∙◌, ap, String, Global}
use Rattle.std.proofs.Common.{string_bytes, string_cmp, Ordering, Less, Equal, Greater}
use Rattle.std.proofs.lemmas.Map.Text.{is_eq-slice_cmp}
use Rattle.std.proofs.lemmas.Slice.Eq.{bytes_eq-Decides}
use Rattle.std.specs.BTreeMap.{insert_entry, is_at}
use Rattle.std.specs.Cmp.Lexicographic.{slice_cmp}
use Rattle.std.specs.List.Sorted.{IsStrictlySortedBy}
use Rattle.std.specs.Map.{lookup}
use Rattle.std.specs.Ordering.{nat_cmp, match_ordering}
use Rattle.rec_events.specs.Names.{texts}
use Rattle.rec_events.specs.PairLaws.{Rise-texts}
use Rattle.rec_format.specs.declared.suites.RerunTestSuiteInfo.{RerunTestSuiteInfo}
use Rattle.rec_format.specs.SuiteEntries.{suites_in, AreNamed}
use Rattle.rec_format.specs.Suites.{put_suite, suite_of, SuitesRise}

-- the suite at an id is that of the entry at it
pub lookup-suites : (id : List ℕ) (es : List (String Global × RerunTestSuiteInfo)) → AreNamed es
    → lookup (is_at (λ k. slice_cmp nat_cmp id (string_bytes k))) es ≡ suite_of id (suites_in es)
lookup-suites id [] h = refl
lookup-suites id (e ∷ es) h = rw (h.0, is_eq-slice_cmp id e.1.binary_id, lookup-suites id es h.1)

suites_in-match_ordering : (o : Ordering) (a b c : List (String Global × RerunTestSuiteInfo))
    → suites_in (match_ordering o a b c)
    ≡ match_ordering o (suites_in a) (suites_in b) (suites_in c)
suites_in-match_ordering Less a b c = refl
suites_in-match_ordering Equal a b c = refl
suites_in-match_ordering Greater a b c = refl

same_place : (x x' y y' : List ℕ) (a b c c' : List RerunTestSuiteInfo) → x ≡ x' → y ≡ y' → c ≡ c'
    → match_ordering (slice_cmp nat_cmp x y) a b c ≡ match_ordering (slice_cmp nat_cmp x' y') a b c'
same_place x x' y y' a b c c' p q r = rw (p, q, r)

-- an entry put into the map is a suite put among its suites
pub suites_in-insert_entry : (es : List (String Global × RerunTestSuiteInfo)) (k : String Global)
    (suite : RerunTestSuiteInfo)
    → AreNamed es
    → string_bytes k ≡ suite.binary_id
    → suites_in (insert_entry string_cmp es k suite) ≡ put_suite suite (suites_in es)
suites_in-insert_entry [] k suite h is = refl
suites_in-insert_entry (e ∷ es) k suite h is =
    suites_in-match_ordering (string_cmp k e.0) _ _ _
    ∙ same_place (string_bytes k) suite.binary_id (string_bytes e.0) e.1.binary_id _ _ _ _ is h.0
    (ap (λ more. e.1 ∷ more) (suites_in-insert_entry es k suite h.1 is))

same_text : (xs ys : List ℕ) → slice_cmp nat_cmp xs ys ≡ Equal → xs ≡ ys
same_text xs ys h = (bytes_eq-Decides xs ys).0 (sym (is_eq-slice_cmp xs ys) ∙ rw h)

named_at : (o : Ordering) (e : String Global × RerunTestSuiteInfo)
    (es : List (String Global × RerunTestSuiteInfo)) (k : String Global)
    (suite : RerunTestSuiteInfo)
    → AreNamed (e ∷ es) → string_bytes k ≡ suite.binary_id
    → AreNamed (insert_entry string_cmp es k suite) → string_cmp k e.0 ≡ o
    → AreNamed (match_ordering o ((k, suite) ∷ e ∷ es) ((e.0, suite) ∷ es)
    (e ∷ insert_entry string_cmp es k suite))
named_at Less e es k suite h is more at = (is, h)
named_at Equal e es k suite h is more at =
    (sym (same_text (string_bytes k) (string_bytes e.0) at) ∙ is, h.1)
named_at Greater e es k suite h is more at = (h.0, more)

pub AreNamed-insert_entry : (es : List (String Global × RerunTestSuiteInfo)) (k : String Global)
    (suite : RerunTestSuiteInfo)
    → AreNamed es
    → string_bytes k ≡ suite.binary_id → AreNamed (insert_entry string_cmp es k suite)
AreNamed-insert_entry [] k suite h is = (is, tt)
AreNamed-insert_entry (e ∷ es) k suite h is =
    named_at (string_cmp k e.0) e es k suite h is (AreNamed-insert_entry es k suite h.1 is) refl

binary_ids : (es : List (String Global × RerunTestSuiteInfo)) → AreNamed es
    → texts (map (λ e. e.0) es) ≡ map (λ suite. suite.binary_id) (suites_in es)
binary_ids [] h = refl
binary_ids (e ∷ es) h =
    ap (λ id. id ∷ texts (map (λ e. e.0) es)) h.0
    ∙ ap (λ ids. e.1.binary_id ∷ ids) (binary_ids es h.1)

-- where the keys rise, the ids of the suites do
pub SuitesRise-entries : (es : List (String Global × RerunTestSuiteInfo)) → AreNamed es
    → IsStrictlySortedBy string_cmp (map (λ e. e.0) es)
    → SuitesRise (suites_in es)
SuitesRise-entries es h rise = rw (← binary_ids es h) (Rise-texts (map (λ e. e.0) es) rise)
