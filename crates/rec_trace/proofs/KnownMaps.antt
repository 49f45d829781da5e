-- The maps of rows and of tests, as the definitions see them, and what their changes leave.
use Rattle.std.proofs.Common.{◌≡◌, ◌==◌, ◌&&◌, ◌||◌, Bool, true, false, not, cond}
use Rattle.std.proofs.Common.{Option, None, Some, IsSome, is_some, option_and_then}
use Rattle.std.proofs.Common.{unwrap_or, refl, sym, ◌∙◌, ap, subst}
use Rattle.std.proofs.lemmas.Bool.{false≢true}
use Rattle.std.proofs.lemmas.Map.Entries.{option_filter}
use Rattle.std.proofs.lemmas.Map.Keys.{IsDistinct-from_sorted}
use Rattle.std.specs.BTreeMap.{BTreeMap, IsOrdered, UpdatesBy, get_by, is_at}
use Rattle.std.specs.List.{IsDistinct}
use Rattle.std.specs.Map.{keys_of, lookup}
use Rattle.std.specs.Ordering.{is_eq, nat_cmp}
use Rattle.rec_events.proofs.TestOrder.{is_eq-then, same_test, test_eq-self, test_eq-true, tests_at}
use Rattle.rec_events.specs.contracts.instances.OwnedTestInstanceIdOrd.TheImpl as tests
use Rattle.rec_events.specs.declared.instances.OwnedTestInstanceId.{OwnedTestInstanceId}
use Rattle.rec_events.specs.Tests.{test_eq}
use Rattle.rec_trace_events.specs.contracts.rows.RowOrd.TheImpl as rows
use Rattle.rec_trace_events.specs.declared.rows.Row.{Row}
use Rattle.rec_spans.proofs.Keys.{is_eq-nat_cmp, row_eq-true}
use Rattle.rec_spans.specs.Keys.{row_eq}
use Rattle.rec_trace.specs.declared.known.notes.TestNotes.{TestNotes}
use Rattle.rec_trace.specs.Known.{of_test}

-- ---- options

none_from : {X : Type 0} (o : Option X) → is_some o ≡ false → o ≡ None
none_from None h = refl
none_from (Some x) h = absurd (false≢true (sym h))

pub none_if : {X : Type 0} (o : Option X) (b : Bool) → is_some o ≡ not b → b ≡ true → o ≡ None
none_if o b h e = none_from o (h ∙ ap not e)

pub no_some : {X : Type 0} (o : Option X) → o ≡ None → IsSome o → ⊥
no_some o none some = false≢true (sym (ap is_some none) ∙ some)

some-cond : {X : Type 0} (b : Bool) (x : X) (o : Option X) → IsSome o → IsSome (cond b (Some x) o)
some-cond true x o h = refl
some-cond false x o h = h

-- ---- the orders of maps

same_row : (a b : Row) → is_at (rows.cmp-value.it a) b ≡ row_eq a b
same_row a b =
    is_eq-then (nat_cmp a.pid b.pid) (nat_cmp a.tid b.tid)
    ∙ ap (λ x. x && is_eq (nat_cmp a.tid b.tid)) (is_eq-nat_cmp a.pid b.pid)
    ∙ ap (λ x. a.pid == b.pid && x) (is_eq-nat_cmp a.tid b.tid)

rows_at : (λ (a b : Row). is_at (rows.cmp-value.it a) b) ≡ row_eq
rows_at = λ i a b. same_row a b i

-- ---- rows

-- the rows of a map are there once each
pub rows-once : (m : BTreeMap Row Bool) → IsOrdered rows.cmp-value.it m
    → IsDistinct row_eq (keys_of m.entries)
rows-once m h =
    subst (λ eq. IsDistinct eq (keys_of m.entries)) rows_at
    (IsDistinct-from_sorted rows.cmp-value.it (keys_of m.entries) h)

-- what a map has at a row
row-get : (m : BTreeMap Row Bool) (r : Row)
    → get_by (rows.cmp-value.it r) m ≡ lookup (row_eq r) m.entries
row-get m r = ap (λ f. lookup (f r) m.entries) rows_at

-- a row that isn't among the keys has no entry
pub row-absent : (m : BTreeMap Row Bool) (r : Row) (b : Bool)
    → b ≡ is_some (get_by (rows.cmp-value.it r) m) → b ≡ false → lookup (row_eq r) m.entries ≡ None
row-absent m r b is h = sym (row-get m r) ∙ none_from (get_by (rows.cmp-value.it r) m) (sym is ∙ h)

-- what a map has at a row after a change at one
pub row-updates : (r : Row) (m n : BTreeMap Row Bool) (w : Option Bool)
    → UpdatesBy rows.cmp-value.it (rows.cmp-value.it r) m n w
    → (q : Row) → lookup (row_eq q) n.entries ≡ cond (row_eq r q) w (lookup (row_eq q) m.entries)
row-updates r m n w changed q =
    sym (row-get n q)
    ∙ changed.0 q
    ∙ ap (λ x. cond x w (get_by (rows.cmp-value.it q) m)) (same_row r q)
    ∙ ap (cond (row_eq r q) w) (row-get m q)

module _ (r : Row) (m n : BTreeMap Row Bool) (b : Bool)
    (changed : UpdatesBy rows.cmp-value.it (rows.cmp-value.it r) m n (Some b)) where
  -- no entry is lost
  pub rows-kept : (q : Row) → IsSome (lookup (row_eq q) m.entries)
      → IsSome (lookup (row_eq q) n.entries)
  rows-kept q some =
      subst IsSome (sym (row-updates r m n (Some b) changed q))
      (some-cond (row_eq r q) b (lookup (row_eq q) m.entries) some)

  -- a row that gets an entry isn't named by that
  pub row-unnamed : lookup (row_eq r) m.entries ≡ None → b ≡ false → (q : Row)
      → unwrap_or (lookup (row_eq q) n.entries) false
      ≡ unwrap_or (lookup (row_eq q) m.entries) false
  row-unnamed none is q =
      ap (λ o. unwrap_or o false) (row-updates r m n (Some b) changed q) ∙ go (row_eq r q) refl
    where
      go : (x : Bool) → row_eq r q ≡ x
          → unwrap_or (cond x (Some b) (lookup (row_eq q) m.entries)) false
          ≡ unwrap_or (lookup (row_eq q) m.entries) false
      go true h = is ∙ sym (ap (λ o. unwrap_or o false)
          (subst (λ v. lookup (row_eq v) m.entries ≡ None) (row_eq-true r q h) none))
      go false h = refl

  pub row-named : b ≡ true → (q : Row)
      → unwrap_or (lookup (row_eq q) n.entries) false
      ≡ (row_eq r q || unwrap_or (lookup (row_eq q) m.entries) false)
  row-named is q =
      ap (λ o. unwrap_or o false) (row-updates r m n (Some b) changed q) ∙ go (row_eq r q)
    where
      go : (x : Bool)
          → unwrap_or (cond x (Some b) (lookup (row_eq q) m.entries)) false
          ≡ (x || unwrap_or (lookup (row_eq q) m.entries) false)
      go true = is
      go false = refl

-- a row that loses its entry was not named
pub row-forgotten : (r : Row) (m n : BTreeMap Row Bool)
    → UpdatesBy rows.cmp-value.it (rows.cmp-value.it r) m n None
    → unwrap_or (lookup (row_eq r) m.entries) false ≡ false
    → (q : Row)
    → unwrap_or (lookup (row_eq q) n.entries) false ≡ unwrap_or (lookup (row_eq q) m.entries) false
row-forgotten r m n changed unnamed q =
    ap (λ o. unwrap_or o false) (row-updates r m n None changed q)
    ∙ go (row_eq r q) refl
  where
    go : (x : Bool) → row_eq r q ≡ x
        → unwrap_or (cond x None (lookup (row_eq q) m.entries)) false
        ≡ unwrap_or (lookup (row_eq q) m.entries) false
    go true h =
        sym (subst (λ v. unwrap_or (lookup (row_eq v) m.entries) false ≡ false) (row_eq-true r q h)
        unnamed)
    go false h = refl

-- ---- tests

-- the tests of a map are there once each
pub tests-once : (m : BTreeMap OwnedTestInstanceId TestNotes) → IsOrdered tests.cmp-value.it m
    → IsDistinct test_eq (keys_of m.entries)
tests-once m h =
    subst (λ eq. IsDistinct eq (keys_of m.entries)) tests_at
    (IsDistinct-from_sorted tests.cmp-value.it (keys_of m.entries) h)

-- a test whose notes have an arrow has one pending
pub test-passes : (o : Option TestNotes)
    → is_some (option_filter (λ (n : TestNotes). is_some n.arrow) o)
    ≡ is_some (option_and_then (λ (n : TestNotes). n.arrow) o)
test-passes None = refl
test-passes (Some n) = go (is_some n.arrow)
  where
    go : (b : Bool) → is_some (cond b (Some n) None) ≡ b
    go true = refl
    go false = refl

-- what a map has at a test
pub test-get : (m : BTreeMap OwnedTestInstanceId TestNotes) (t : OwnedTestInstanceId)
    → get_by (tests.cmp-value.it t) m ≡ lookup (test_eq t) m.entries
test-get m t = ap (λ f. lookup (f t) m.entries) tests_at

-- a test that isn't among the keys has no notes
pub test-absent : (m : BTreeMap OwnedTestInstanceId TestNotes) (t : OwnedTestInstanceId) (b : Bool)
    → b ≡ is_some (get_by (tests.cmp-value.it t) m) → b ≡ false
    → lookup (test_eq t) m.entries ≡ None
test-absent m t b is h =
    sym (test-get m t) ∙ none_from (get_by (tests.cmp-value.it t) m) (sym is ∙ h)

-- what is read of the notes of a test
abbrev pub read : {Y : Type 0} → (TestNotes → Option Y) → BTreeMap OwnedTestInstanceId TestNotes
    → OwnedTestInstanceId → Option Y
read f m t = option_and_then f (lookup (test_eq t) m.entries)

module _ (t : OwnedTestInstanceId) (m n : BTreeMap OwnedTestInstanceId TestNotes)
    (w : Option TestNotes)
    (changed : UpdatesBy tests.cmp-value.it (tests.cmp-value.it t) m n w) where
  pub test-updates : (q : OwnedTestInstanceId)
      → lookup (test_eq q) n.entries ≡ cond (test_eq t q) w (lookup (test_eq q) m.entries)
  test-updates q =
      sym (test-get n q)
      ∙ changed.0 q
      ∙ ap (λ x. cond x w (get_by (tests.cmp-value.it q) m)) (same_test t q)
      ∙ ap (cond (test_eq t q) w) (test-get m q)

  pub test-there : IsSome w → IsSome (lookup (test_eq t) n.entries)
  test-there some =
      subst IsSome
      (sym (test-updates t ∙ ap (λ x. cond x w (lookup (test_eq t) m.entries)) (test_eq-self t)))
      some

  module _ {Y : Type 0} (f : TestNotes → Option Y) where
    -- this is noted of the test from here on
    pub test-noted : (y : Option Y) → option_and_then f w ≡ y → (q : OwnedTestInstanceId)
        → read f n q ≡ of_test t y (read f m) q
    test-noted y is q = ap (option_and_then f) (test-updates q) ∙ go (test_eq t q)
      where
        go : (x : Bool)
            → option_and_then f (cond x w (lookup (test_eq q) m.entries)) ≡ cond x y (read f m q)
        go true = is
        go false = refl

    -- an empty note says as much as none
    pub test-unnoted : lookup (test_eq t) m.entries ≡ None → option_and_then f w ≡ None
        → (q : OwnedTestInstanceId) → read f n q ≡ read f m q
    test-unnoted none is q = ap (option_and_then f) (test-updates q) ∙ go (test_eq t q) refl
      where
        go : (x : Bool) → test_eq t q ≡ x
            → option_and_then f (cond x w (lookup (test_eq q) m.entries)) ≡ read f m q
        go true h = is ∙ sym (ap (option_and_then f)
            (subst (λ v. lookup (test_eq v) m.entries ≡ None) (test_eq-true t q h) none))
        go false h = refl

  -- a test of which this isn't noted loses its notes
  pub test-forgotten : {Y : Type 0} (f : TestNotes → Option Y) → w ≡ None → read f m t ≡ None
      → (q : OwnedTestInstanceId) → read f n q ≡ read f m q
  test-forgotten f gone none q = ap (option_and_then f) (test-updates q) ∙ go (test_eq t q) refl
    where
      go : (x : Bool) → test_eq t q ≡ x
          → option_and_then f (cond x w (lookup (test_eq q) m.entries)) ≡ read f m q
      go true h =
          ap (option_and_then f) gone
          ∙ sym (subst (λ v. read f m v ≡ None) (test_eq-true t q h) none)
      go false h = refl
