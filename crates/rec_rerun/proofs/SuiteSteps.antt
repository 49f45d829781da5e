-- The names and the suites that are made of how tests stand, one after the other.
use Rattle.std.proofs.Common.{◌≡◌, inl, inr, ℕ, ◌+◌, ◌<◌, arith, Bool, true, false}
use Rattle.std.proofs.Common.{◌||◌, List, [], ◌∷◌, length, Option, Some, String}
use Rattle.std.proofs.Common.{Global, string_bytes, refl, sym, ◌∙◌, ap, subst}
use Rattle.std.proofs.lemmas.Bool.{false≢true}
use Rattle.std.proofs.lemmas.Map.Text.{is_eq-slice_cmp}
use Rattle.std.specs.BTreeMap.{BTreeMap, get_by_text}
use Rattle.std.specs.List.{AllByRecursion}
use Rattle.std.specs.Prelude.{bytes_eq, if◌then◌else◌}
use Rattle.rec_events.specs.Names.{Rise, with_name}
use Rattle.rec_format.specs.declared.suites.RerunTestSuiteInfo.{RerunTestSuiteInfo}
use Rattle.rec_format.specs.Suites.{SuitesRise, suite_of}
use Rattle.rec_rerun.proofs.Gathered.{IsGathered, bytes_eq-self, bytes_eq-sym}
use Rattle.rec_rerun.proofs.Gathered.{entry_at, gathered-all, gathered-more}
use Rattle.rec_rerun.proofs.SuiteSets.{All-put_suite, has-with_name}
use Rattle.rec_rerun.proofs.SuiteSets.{holds_at, names_at, suite_of-put}
use Rattle.rec_rerun.specs.declared.standings.Standing.TheVariants.{Known, Started}
use Rattle.rec_rerun.specs.declared.standings.Standing.{Standing}
use Rattle.rec_rerun.specs.Standings.{Tests, in_binary}
use Rattle.rec_rerun.specs.Suites.{AddsSuite, AreSuitesOf, IsFull, IsSuiteOf, has, names_of, stands}

-- ---- names

pub names-more : (tests : BTreeMap (String Global) Standing) (passed : Bool)
    (names new : List (List ℕ)) (k : String Global) (v : Standing)
    (rest all : List (String Global × Standing))
    → get_by_text tests (string_bytes k) ≡ Some v
    → new ≡ (if stands passed (Some v) then with_name names (string_bytes k) else names)
    → all ≡ (k, v) ∷ rest
    → IsGathered tests (stands passed) (has names) all
    → IsGathered tests (stands passed) (has new) rest
names-more tests passed names new k v rest all is added step g =
    subst (λ ns. IsGathered tests (stands passed) (has ns) rest) (sym added)
    (by (stands passed (Some v)) refl)
  where
    id : List ℕ
    id = string_bytes k

    by : (b : Bool) → stands passed (Some v) ≡ b
        → IsGathered tests (stands passed) (has (if b then with_name names id else names)) rest
    by true e =
        gathered-more tests (stands passed) (has names) (has (with_name names id)) k v rest is
        (λ n apart. has-with_name names id n
        ∙ ap (λ b. b || has names n) (bytes_eq-sym id n ∙ apart))
        (λ h. inl e)
        (λ h. has-with_name names id id ∙ ap (λ b. b || has names id) (bytes_eq-self id))
        (subst (λ es. IsGathered tests (stands passed) (has names) es) step g)
    by false e = gathered-more tests (stands passed) (has names) (has names) k v rest is
        (λ n apart. refl)
        (λ h. inr h)
        (λ h. absurd (false≢true (sym e ∙ h)))
        (subst (λ es. IsGathered tests (stands passed) (has names) es) step g)

-- ---- a suite

some_has : (ns : List (List ℕ)) (n : List ℕ) → has ns n ≡ true → 0 < length ns
some_has [] n h = absurd (false≢true h)
some_has (x ∷ xs) n h = omega arith

pub suite-made : (binary : List ℕ) (tests : BTreeMap (String Global) Standing)
    (suite : RerunTestSuiteInfo)
    → suite.binary_id ≡ binary
    → ((n : List ℕ) → has suite.passing n ≡ stands true (get_by_text tests n))
    → ((n : List ℕ) → has suite.outstanding n ≡ stands false (get_by_text tests n))
    → Rise suite.passing → Rise suite.outstanding → 0 < length tests.entries
    → IsSuiteOf binary tests suite
suite-made binary tests suite is passing outstanding up down some = record {
  binary_id = is;
  names = both;
  full =
      record { passing = up; outstanding = down; some = go tests.entries passing outstanding some };
}
  where
    both : (passed : Bool) (n : List ℕ)
        → has (names_of passed suite) n ≡ stands passed (get_by_text tests n)
    both true n = passing n
    both false n = outstanding n

    go : (es : List (String Global × Standing))
        → ((n : List ℕ) → has suite.passing n ≡ stands true (entry_at n es))
        → ((n : List ℕ) → has suite.outstanding n ≡ stands false (entry_at n es)) → 0 < length es
        → 0 < length suite.passing + length suite.outstanding
    go [] p o h = absurd (omega (arith, h))
    go (e ∷ es) p o h = by e.1 refl
      where
        id : List ℕ
        id = string_bytes e.0

        first : entry_at id (e ∷ es) ≡ Some e.1
        first =
            ap (λ b. if b then Some e.1 else entry_at id es)
            (is_eq-slice_cmp id id ∙ bytes_eq-self id)

        passes : stands true (Some e.1) ≡ true → 0 < length suite.passing + length suite.outstanding
        passes h =
            let one = some_has suite.passing id (p id ∙ ap (stands true) first ∙ h) in
            omega (arith, one)

        fails : stands false (Some e.1) ≡ true → 0 < length suite.passing + length suite.outstanding
        fails h =
            let one = some_has suite.outstanding id (o id ∙ ap (stands false) first ∙ h) in
            omega (arith, one)

        by : (s : Standing) → e.1 ≡ s → 0 < length suite.passing + length suite.outstanding
        by (Known true) h = passes (ap (λ s. stands true (Some s)) h)
        by (Known false) h = fails (ap (λ s. stands false (Some s)) h)
        by (Started true) h = passes (ap (λ s. stands true (Some s)) h)
        by (Started false) h = fails (ap (λ s. stands false (Some s)) h)

-- ---- suites

module _ (tests : Tests) (suites new : List RerunTestSuiteInfo) (k : String Global)
    (v : BTreeMap (String Global) Standing) where
  pub full-more : AddsSuite (string_bytes k) v suites new → AllByRecursion IsFull suites
      → AllByRecursion IsFull new
  full-more (inl h) full = subst (λ ss. AllByRecursion IsFull ss) (sym h.1) full
  full-more (inr h) full =
      subst (λ ss. AllByRecursion IsFull ss) (sym h.2)
      (All-put_suite IsFull h.0 suites h.1.full full)

  module _ (passed : Bool) (name : List ℕ) where
    abbrev wants : Option (BTreeMap (String Global) Standing) → Bool
    wants o = stands passed (in_binary o name)

    abbrev found : List RerunTestSuiteInfo → List ℕ → Bool
    found ss id = names_at passed (suite_of id ss) name

    pub suites-more : (rest all : List (String Global × BTreeMap (String Global) Standing))
        → get_by_text tests (string_bytes k) ≡ Some v
        → AddsSuite (string_bytes k) v suites new → all ≡ (k, v) ∷ rest
        → IsGathered tests (λ o. stands passed (in_binary o name))
        (λ id. names_at passed (suite_of id suites) name) all
        → IsGathered tests (λ o. stands passed (in_binary o name))
        (λ id. names_at passed (suite_of id new) name) rest
    suites-more rest all is (inl h) step g =
        gathered-more tests wants (found suites) (found new) k v rest is
        (λ id apart. ap (λ ss. found ss id) h.1)
        (λ t. inr (ap (λ ss. found ss (string_bytes k)) (sym h.1) ∙ t))
        (λ t. absurd (false≢true (sym (ap (λ es. stands passed (entry_at name es)) h.0) ∙ t)))
        (subst (λ es. IsGathered tests wants (found suites) es) step g)
    suites-more rest all is (inr h) step g =
        gathered-more tests wants (found suites) (found new) k v rest is
        (λ id apart. put id
        ∙ ap (λ b. names_at passed (if b then Some h.0 else suite_of id suites) name)
        (ap (bytes_eq id) h.1.binary_id ∙ apart))
        (λ t. inl (sym here ∙ t))
        (λ t. here ∙ t)
        (subst (λ es. IsGathered tests wants (found suites) es) step g)
      where
        put : (id : List ℕ) → found new id ≡ names_at passed
            (if bytes_eq id h.0.binary_id then Some h.0 else suite_of id suites) name
        put id =
            ap (λ ss. found ss id) h.2
            ∙ ap (λ o. names_at passed o name) (suite_of-put h.0 suites id)

        here : found new (string_bytes k) ≡ wants (Some v)
        here = put (string_bytes k)
            ∙ ap
            (λ b. names_at passed (if b then Some h.0 else suite_of (string_bytes k) suites) name)
            (ap (bytes_eq (string_bytes k)) h.1.binary_id ∙ bytes_eq-self (string_bytes k))
            ∙ h.1.names passed name

pub suites-all : (tests : Tests) (suites : List RerunTestSuiteInfo)
    (rest : List (String Global × BTreeMap (String Global) Standing))
    → rest ≡ [] → SuitesRise suites → AllByRecursion IsFull suites
    → ((passed : Bool) (name : List ℕ) → IsGathered tests (λ o. stands passed (in_binary o name))
    (λ id. names_at passed (suite_of id suites) name) rest)
    → AreSuitesOf tests suites
suites-all tests suites rest none rise full g = record {
  rise = rise;
  full = full;
  held = λ passed t. holds_at passed suites t rise
      ∙ gathered-all tests (λ o. stands passed (in_binary o t.test_name))
      (λ id. names_at passed (suite_of id suites) t.test_name) rest none (g passed t.test_name)
      t.binary_id;
}
