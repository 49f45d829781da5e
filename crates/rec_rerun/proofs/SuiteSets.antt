-- What sets of names and suites hold, after a name or a suite is put in.
use Rattle.std.proofs.Common.{◌≡◌, ℕ, Bool, true, false, ◌&&◌, ◌||◌, List, [], ◌∷◌}
use Rattle.std.proofs.Common.{map, Option, Some, None, String, Global, string_bytes}
use Rattle.std.proofs.Common.{refl, sym, ◌∙◌, ap, Ordering, Less, Equal, Greater}
use Rattle.std.proofs.lemmas.Bool.{false≢true}
use Rattle.std.proofs.lemmas.Map.Text.{is_eq-slice_cmp}
use Rattle.std.proofs.lemmas.Slice.Eq.{bytes_eq-Decides}
use Rattle.std.proofs.Math.Bool.{or_comm}
use Rattle.std.specs.BTreeMap.{is_at}
use Rattle.std.specs.Cmp.Lexicographic.{slice_cmp}
use Rattle.std.specs.List.Sorted.{IsStrictlySortedBy}
use Rattle.std.specs.List.{AllByRecursion, list_any}
use Rattle.std.specs.Ordering.{nat_cmp, is_eq, match_ordering}
use Rattle.std.specs.Prelude.{bytes_eq, if◌then◌else◌}
use Rattle.rec_events.specs.declared.instances.OwnedTestInstanceId.{OwnedTestInstanceId}
use Rattle.rec_events.specs.Names.{texts, with_name}
use Rattle.rec_events.specs.Tests.{is_named}
use Rattle.rec_format.specs.declared.suites.RerunTestSuiteInfo.{RerunTestSuiteInfo}
use Rattle.rec_format.specs.Suites.{SuitesRise, put_suite, suite_of}
use Rattle.rec_rerun.proofs.Gathered.{bytes_eq-sym}
use Rattle.rec_rerun.specs.Suites.{has, has_passing, holds, names_of}

-- ---- names

and-or : (a b c : Bool) → ((a && b) || (a && c)) ≡ (a && (b || c))
and-or true b c = refl
and-or false b c = refl

and-false : (a : Bool) → false ≡ (a && false)
and-false true = refl
and-false false = refl

-- a test is one of a binary's where the binary is its own, and has its name
pub named_is : (binary : List ℕ) (names : List (List ℕ)) (t : OwnedTestInstanceId)
    → is_named binary names t ≡ (bytes_eq binary t.binary_id && has names t.test_name)
named_is binary [] t = and-false (bytes_eq binary t.binary_id)
named_is binary (n ∷ ns) t =
    ap (λ b. (bytes_eq binary t.binary_id && bytes_eq n t.test_name) || b) (named_is binary ns t)
    ∙ and-or (bytes_eq binary t.binary_id) (bytes_eq n t.test_name) (has ns t.test_name)

same_text : (xs ys : List ℕ) → slice_cmp nat_cmp xs ys ≡ Equal → xs ≡ ys
same_text xs ys h = (bytes_eq-Decides xs ys).0 (sym (is_eq-slice_cmp xs ys) ∙ ap is_eq h)

or-swap : (a b c : Bool) → (a || (b || c)) ≡ (b || (a || c))
or-swap true true c = refl
or-swap true false c = refl
or-swap false b c = refl

or-again : (a c : Bool) → (a || c) ≡ (a || (a || c))
or-again true c = refl
or-again false c = refl

-- a set with a name more has this name, and those that it had
pub has-with_name : (ns : List (List ℕ)) (k n : List ℕ)
    → has (with_name ns k) n ≡ (bytes_eq k n || has ns n)
has-with_name [] k n = refl
has-with_name (x ∷ xs) k n = by (slice_cmp nat_cmp k x) refl (has-with_name xs k n)
  where
    by : (o : Ordering) → slice_cmp nat_cmp k x ≡ o
        → has (with_name xs k) n ≡ (bytes_eq k n || has xs n)
        → has (match_ordering o (k ∷ x ∷ xs) (x ∷ xs) (x ∷ with_name xs k)) n
        ≡ (bytes_eq k n || has (x ∷ xs) n)
    by Less e more = refl
    by Equal e more =
        or-again (bytes_eq x n) (has xs n)
        ∙ ap (λ y. bytes_eq y n || (bytes_eq x n || has xs n)) (sym (same_text k x e))
    by Greater e more =
        ap (λ b. bytes_eq x n || b) more ∙ or-swap (bytes_eq x n) (bytes_eq k n) (has xs n)

-- a set of strings finds the names of its texts
pub has-contains : (keys : List (String Global)) (n : List ℕ)
    → list_any (is_at (λ k. slice_cmp nat_cmp n (string_bytes k))) keys ≡ has (texts keys) n
has-contains [] n = refl
has-contains (k ∷ ks) n =
    ap (λ b. b || list_any (is_at (λ j. slice_cmp nat_cmp n (string_bytes j))) ks)
    (is_eq-slice_cmp n (string_bytes k) ∙ bytes_eq-sym n (string_bytes k))
    ∙ ap (λ b. bytes_eq (string_bytes k) n || b) (has-contains ks n)

-- ---- suites

-- what the suite of a binary has
abbrev pub names_at : Bool → Option RerunTestSuiteInfo → List ℕ → Bool
names_at passed None n = false
names_at passed (Some s) n = has (names_of passed s) n

not_above : (passed : Bool) (id : List ℕ) (ss : List RerunTestSuiteInfo) (t : OwnedTestInstanceId)
    → id ≡ t.binary_id
    → AllByRecursion (λ y. slice_cmp nat_cmp id y ≡ Less) (map (λ s. s.binary_id) ss)
    → holds passed ss t ≡ false
not_above passed id [] t is h = refl
not_above passed id (s ∷ ss) t is h =
    let apart : bytes_eq s.binary_id t.binary_id ≡ false =
    bytes_eq-sym s.binary_id t.binary_id ∙ ap (λ x. bytes_eq x s.binary_id) (sym is)
    ∙ sym (is_eq-slice_cmp id s.binary_id) ∙ ap is_eq h.0 in
    ap (λ b. b || holds passed ss t) (named_is s.binary_id (names_of passed s) t
    ∙ ap (λ b. b && has (names_of passed s) t.test_name) apart)
    ∙ not_above passed id ss t is h.1

-- where no binary has two suites, a test is held by the suite of its binary
pub holds_at : (passed : Bool) (ss : List RerunTestSuiteInfo) (t : OwnedTestInstanceId)
    → SuitesRise ss
    → holds passed ss t ≡ names_at passed (suite_of t.binary_id ss) t.test_name
unfolding IsStrictlySortedBy
holds_at passed [] t rise = refl
holds_at passed (s ∷ ss) t rise =
    ap (λ b. b || holds passed ss t) (named_is s.binary_id (names_of passed s) t
    ∙ ap (λ b. b && has (names_of passed s) t.test_name) (bytes_eq-sym s.binary_id t.binary_id))
    ∙ by (bytes_eq t.binary_id s.binary_id) refl (holds_at passed ss t rise.1)
  where
    by : (b : Bool) → bytes_eq t.binary_id s.binary_id ≡ b
        → holds passed ss t ≡ names_at passed (suite_of t.binary_id ss) t.test_name
        → ((b && has (names_of passed s) t.test_name) || holds passed ss t)
        ≡ names_at passed (if b then Some s else suite_of t.binary_id ss) t.test_name
    by true e more = ap (λ b. has (names_of passed s) t.test_name || b) (not_above passed
        s.binary_id ss t (sym ((bytes_eq-Decides t.binary_id s.binary_id).0 e)) rise.0)
        ∙ or_comm (has (names_of passed s) t.test_name) false
    by false e more = more

-- the suite that was put in is that of its binary, and the others stay
pub suite_of-put : (s : RerunTestSuiteInfo) (ss : List RerunTestSuiteInfo) (id : List ℕ)
    → suite_of id (put_suite s ss) ≡ (if bytes_eq id s.binary_id then Some s else suite_of id ss)
suite_of-put s [] id = refl
suite_of-put s (x ∷ xs) id =
    by (slice_cmp nat_cmp s.binary_id x.binary_id) refl (suite_of-put s xs id)
  where
    replaced : (b : Bool)
        → (if b then Some s else suite_of id xs)
        ≡ (if b then Some s else (if b then Some x else suite_of id xs))
    replaced true = refl
    replaced false = refl

    after : (a b : Bool) → bytes_eq id x.binary_id ≡ a → bytes_eq id s.binary_id ≡ b
        → slice_cmp nat_cmp s.binary_id x.binary_id ≡ Greater
        → (if a then Some x else (if b then Some s else suite_of id xs))
        ≡ (if b then Some s else (if a then Some x else suite_of id xs))
    after true true p q e =
        let same : s.binary_id ≡ x.binary_id =
        sym ((bytes_eq-Decides id s.binary_id).0 q) ∙ (bytes_eq-Decides id x.binary_id).0 p in
        absurd (false≢true (sym (sym (is_eq-slice_cmp s.binary_id x.binary_id) ∙ ap is_eq e)
        ∙ (bytes_eq-Decides s.binary_id x.binary_id).1 same))
    after true false p q e = refl
    after false b p q e = refl

    by : (o : Ordering) → slice_cmp nat_cmp s.binary_id x.binary_id ≡ o
        → suite_of id (put_suite s xs)
        ≡ (if bytes_eq id s.binary_id then Some s else suite_of id xs)
        → suite_of id (match_ordering o (s ∷ x ∷ xs) (s ∷ xs) (x ∷ put_suite s xs))
        ≡ (if bytes_eq id s.binary_id then Some s else suite_of id (x ∷ xs))
    by Less e more = refl
    by Equal e more = replaced (bytes_eq id s.binary_id)
        ∙ ap (λ y. if bytes_eq id s.binary_id then Some s
        else (if bytes_eq id y then Some x else suite_of id xs))
        (same_text s.binary_id x.binary_id e)
    by Greater e more = ap (λ o. if bytes_eq id x.binary_id then Some x else o) more
        ∙ after (bytes_eq id x.binary_id) (bytes_eq id s.binary_id) refl refl e

-- what holds of all suites and of one more holds of all with it
pub All-put_suite : (P : RerunTestSuiteInfo → Type 0) (s : RerunTestSuiteInfo)
    (ss : List RerunTestSuiteInfo)
    → P s → AllByRecursion P ss → AllByRecursion P (put_suite s ss)
All-put_suite P s [] p h = (p, tt)
All-put_suite P s (x ∷ xs) p h =
    by (slice_cmp nat_cmp s.binary_id x.binary_id) (All-put_suite P s xs p h.1)
  where
    by : (o : Ordering) → AllByRecursion P (put_suite s xs)
        → AllByRecursion P (match_ordering o (s ∷ x ∷ xs) (s ∷ xs) (x ∷ put_suite s xs))
    by Less more = (p, h)
    by Equal more = (p, h.1)
    by Greater more = (h.0, more)

-- what is found by the binary of a test is what all suites have
pub passing_at : (ss : List RerunTestSuiteInfo) (t : OwnedTestInstanceId)
    (o : Option RerunTestSuiteInfo) (b : Bool)
    → SuitesRise ss → o ≡ suite_of t.binary_id ss
    → b ≡ names_at true o t.test_name → b ≡ has_passing ss t
passing_at ss t o b rise is h =
    h ∙ ap (λ s. names_at true s t.test_name) is ∙ sym (holds_at true ss t rise)
