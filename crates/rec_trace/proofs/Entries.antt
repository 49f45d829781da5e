-- What the changes of maps leave of it that no entry is kept that says nothing.
use Rattle.std.proofs.Common.{◌≡◌, Bool, true, false, cond, Option, None, Some}
use Rattle.std.proofs.Common.{IfSome, is_some, unwrap_or, refl, sym, ◌∙◌, ap, subst}
use Rattle.std.proofs.lemmas.Bool.{false≢true}
use Rattle.std.specs.BTreeMap.{BTreeMap, UpdatesBy}
use Rattle.std.specs.Map.{lookup}
use Rattle.rec_events.proofs.TestOrder.{test_eq-true}
use Rattle.rec_events.specs.contracts.instances.OwnedTestInstanceIdOrd.TheImpl as tests
use Rattle.rec_events.specs.declared.instances.OwnedTestInstanceId.{OwnedTestInstanceId}
use Rattle.rec_events.specs.Tests.{test_eq}
use Rattle.rec_trace_events.specs.contracts.rows.RowOrd.TheImpl as rows
use Rattle.rec_trace_events.specs.declared.rows.Row.{Row}
use Rattle.rec_spans.proofs.Keys.{row_eq-true}
use Rattle.rec_spans.specs.Keys.{row_eq}
use Rattle.rec_trace.proofs.KnownMaps.{row-updates, test-updates}
use Rattle.rec_trace.specs.declared.known.notes.TestNotes.{TestNotes}
use Rattle.rec_trace.specs.Entries.{notes_say}

-- ---- rows

-- what an entry of a row says, if there is one
abbrev IsNamed : Option Bool → Type 0
IsNamed o = IfSome o (λ named. named ≡ true)

abbrev row_says : BTreeMap Row Bool → Row → Type 0
row_says m q = IsNamed (lookup (row_eq q) m.entries)

module _ (r : Row) (m n : BTreeMap Row Bool) (w : Option Bool)
    (changed : UpdatesBy rows.cmp-value.it (rows.cmp-value.it r) m n w) where
  -- the entries of other rows stay
  pub row-other : (q : Row) → row_eq r q ≡ false → row_says m q → row_says n q
  row-other q other says =
      subst IsNamed
      (sym (row-updates r m n w changed q ∙ ap (λ x. cond x w (lookup (row_eq q) m.entries)) other))
      says

  -- a row whose entry is changed has one that says something from here on, or none
  pub row-said : IsNamed w → (q : Row) → (row_eq r q ≡ false → row_says m q) → row_says n q
  row-said says q others =
      subst IsNamed (sym (row-updates r m n w changed q)) (go (row_eq r q) refl)
    where
      go : (x : Bool) → row_eq r q ≡ x → IsNamed (cond x w (lookup (row_eq q) m.entries))
      go true h = says
      go false h = others h

is-named : (o : Option Bool) → unwrap_or o false ≡ true → IsNamed o
is-named None h = absurd (false≢true h)
is-named (Some b) h = h

-- the rows with an entry are those that were named
pub entry-named : (o : Option Bool) → IsNamed o → is_some o ≡ unwrap_or o false
entry-named None says = refl
entry-named (Some b) says = sym says

-- the entry of a row that was named says so
pub row-says : (r : Row) (m : BTreeMap Row Bool)
    → unwrap_or (lookup (row_eq r) m.entries) false ≡ true → (q : Row)
    → (row_eq r q ≡ false → row_says m q) → row_says m q
row-says r m named q others = go (row_eq r q) refl
  where
    go : (x : Bool) → row_eq r q ≡ x → row_says m q
    go true h =
        subst (row_says m) (row_eq-true r q h) (is-named (lookup (row_eq r) m.entries) named)
    go false h = others h

-- ---- tests

-- what an entry of a test says, if there is one
abbrev AreSaid : Option TestNotes → Type 0
AreSaid o = IfSome o (λ n. notes_say n ≡ true)

abbrev test_says : BTreeMap OwnedTestInstanceId TestNotes → OwnedTestInstanceId → Type 0
test_says m q = AreSaid (lookup (test_eq q) m.entries)

module _ (t : OwnedTestInstanceId) (m n : BTreeMap OwnedTestInstanceId TestNotes)
    (w : Option TestNotes)
    (changed : UpdatesBy tests.cmp-value.it (tests.cmp-value.it t) m n w) where
  -- the entries of other tests stay
  pub test-other : (q : OwnedTestInstanceId) → test_eq t q ≡ false → test_says m q → test_says n q
  test-other q other says =
      subst AreSaid (sym
      (test-updates t m n w changed q ∙ ap (λ x. cond x w (lookup (test_eq q) m.entries)) other))
      says

  -- a test whose entry is changed has one that says something from here on, or none
  pub test-said : AreSaid w → (q : OwnedTestInstanceId) → (test_eq t q ≡ false → test_says m q)
      → test_says n q
  test-said says q others =
      subst AreSaid (sym (test-updates t m n w changed q)) (go (test_eq t q) refl)
    where
      go : (x : Bool) → test_eq t q ≡ x → AreSaid (cond x w (lookup (test_eq q) m.entries))
      go true h = says
      go false h = others h

-- the entry of a test says something already
pub test-says : (t : OwnedTestInstanceId) (m : BTreeMap OwnedTestInstanceId TestNotes)
    → test_says m t → (q : OwnedTestInstanceId) → (test_eq t q ≡ false → test_says m q)
    → test_says m q
test-says t m says q others = go (test_eq t q) refl
  where
    go : (x : Bool) → test_eq t q ≡ x → test_says m q
    go true h = subst (test_says m) (test_eq-true t q h) says
    go false h = others h
