-- An event that was opened is committed by the rest of it, and taken back without a trace.
use Rattle.std.proofs.Common.{◌≡◌, ℕ, suc, Bool, true, false, not, cond, List}
use Rattle.std.proofs.Common.{[], ◌∷◌, Option, Some, None, is_some, Less}
use Rattle.std.proofs.Common.{Equal, Greater, nat_cmp, refl, sym, ◌∙◌, ap}
use Rattle.std.proofs.lemmas.Bool.{false≢true}
use Rattle.std.proofs.lemmas.Map.Text.{is_eq-slice_cmp}
use Rattle.std.proofs.lemmas.Slice.Eq.{bytes_eq-Decides}
use Rattle.std.specs.BTreeMap.{insert_entry, is_at}
use Rattle.std.specs.Cmp.Lexicographic.{slice_cmp}
use Rattle.std.specs.declared.cmp.Ordering.{Ordering}
use Rattle.std.specs.Map.{lookup, remove_entry}
use Rattle.std.specs.Ordering.{is_eq}
use Rattle.std.specs.Prelude.{bytes_eq, length}
use Rattle.rec_spans.proofs.Acceptance.{key-free, next_refusal-none}
use Rattle.rec_spans.proofs.OpenTests.{put-without}
use Rattle.rec_spans.specs.declared.spans.Span.{Span}
use Rattle.rec_spans.specs.declared.spans.SpanKey.TheVariants.{Run, SubRun, Script, Test}
use Rattle.rec_spans.specs.declared.spans.SpanKey.{SpanKey}
use Rattle.rec_spans.specs.History.{TraceState, next_state}
use Rattle.rec_spans.specs.Opened.{adds_binary, binaries_taken_back, is_new, key_adds}
use Rattle.rec_spans.specs.Opened.{spans_closed, spans_opened, spans_taken_back}
use Rattle.rec_spans.specs.Opened.{state_opened, state_passed, without_binary, without_key}
use Rattle.rec_spans.specs.Past.Change.{Start, Stop, Pause, Resume, Other}
use Rattle.rec_spans.specs.Past.{Change, TraceInput, binaries_after, number_of}
use Rattle.rec_spans.specs.Past.{open_after, scripts_after, with_binary, with_key}
use Rattle.rec_spans.specs.Refusals.{next_refusal, open_refusal}

-- ---- the rest of an event

opened-closed : (c : Change) (spans : List Span)
    → spans_closed c (spans_opened c spans) ≡ open_after c spans
opened-closed (Start s) spans = refl
opened-closed (Stop k) spans = refl
opened-closed Pause spans = refl
opened-closed Resume spans = refl
opened-closed Other spans = refl

-- the rest of an event makes the state that of the next one
pub passed : (input : TraceInput) (state : TraceState) (number scripts : ℕ)
    → number ≡ suc state.number → scripts ≡ scripts_after input.act state.scripts
    → state_passed input.act input.change number scripts (state_opened input state)
    ≡ next_state input state
passed input state number scripts is runs =
    rw (is, runs, opened-closed input.change state.spans) refl

-- ---- spans

-- what an accepted event opened is closed again
spans-back : (n : ℕ) (c : Change) (spans : List Span) → open_refusal n spans c ≡ None
    → spans_taken_back c (spans_opened c spans) ≡ spans
spans-back n (Start s) spans free = put-without s.key s spans refl (key-free n s spans free)
spans-back n (Stop k) spans free = refl
spans-back n Pause spans free = refl
spans-back n Resume spans free = refl
spans-back n Other spans free = refl

-- ---- binaries

module _ {K X : Type 0} (R : K → K → Ordering) (k : K) (itself : R k k ≡ Equal) where
  -- what was put into a map is removed again
  remove-insert : (es : List (K × X)) (v : X) → lookup (is_at (R k)) es ≡ None
      → remove_entry (is_at (R k)) (insert_entry R es k v) ≡ es
  remove-insert [] v free = rw (itself) refl
  remove-insert (e ∷ es) v free = by (R k e.0) refl free (remove-insert es v)
    where
      by : (o : Ordering) → R k e.0 ≡ o → lookup (is_at (R k)) (e ∷ es) ≡ None
          → (lookup (is_at (R k)) es ≡ None
          → remove_entry (is_at (R k)) (insert_entry R es k v) ≡ es)
          → remove_entry (is_at (R k)) (insert_entry R (e ∷ es) k v) ≡ e ∷ es
      by Less p h more = rw (p, itself) refl
      by Equal p h more = absurd (let k = (rw (p) at h) in cc)
      by Greater p h more = rw (p) (rw (p) (ap (λ l. e ∷ l) (more (rw (p) at h))))

equal-from : (o : Ordering) → is_eq o ≡ true → o ≡ Equal
equal-from Less h = absurd (false≢true h)
equal-from Equal h = refl
equal-from Greater h = absurd (false≢true h)

-- a binary that was added is removed again
removed-again : (b : List ℕ) (seen : List (List ℕ × ℕ)) (v : ℕ) → number_of b seen ≡ None
    → without_binary b (insert_entry (slice_cmp nat_cmp) seen b v) ≡ seen
removed-again b seen v free =
    let same : is_at (slice_cmp nat_cmp b) ≡ (λ c. bytes_eq b c) = λ i c. is_eq-slice_cmp b c i in
    let itself =
    equal-from (slice_cmp nat_cmp b b) (is_eq-slice_cmp b b ∙ (bytes_eq-Decides b b).1 refl) in
    ap (λ t. remove_entry t (insert_entry (slice_cmp nat_cmp) seen b v)) (sym same)
    ∙ remove-insert (slice_cmp nat_cmp) b itself seen v (ap (λ t. lookup t seen) same ∙ free)

binary-back : (b : List ℕ) (seen : List (List ℕ × ℕ)) → is_new b seen ≡ true
    → without_binary b (with_binary b seen) ≡ seen
binary-back b seen new = go (number_of b seen) refl new
  where
    go : (o : Option ℕ) → number_of b seen ≡ o → not (is_some o) ≡ true
        → without_binary b
        (cond (is_some o) seen (insert_entry (slice_cmp nat_cmp) seen b (length seen)))
        ≡ seen
    go None e new = removed-again b seen (length seen) e
    go (Some n) e new = absurd (false≢true new)

binary-there : (b : List ℕ) (seen : List (List ℕ × ℕ)) → is_new b seen ≡ false
    → with_binary b seen ≡ seen
binary-there b seen old = go (is_some (number_of b seen)) old
  where
    go : (there : Bool) → not there ≡ false
        → cond there seen (insert_entry (slice_cmp nat_cmp) seen b (length seen)) ≡ seen
    go true old = refl
    go false old = absurd (false≢true (sym old))

key-back : (k : SpanKey) (seen : List (List ℕ × ℕ)) → key_adds k seen ≡ true
    → without_key k (with_key k seen) ≡ seen
key-back Run seen new = refl
key-back SubRun seen new = refl
key-back (Script i) seen new = refl
key-back (Test t) seen new = binary-back t.binary_id seen new

key-there : (k : SpanKey) (seen : List (List ℕ × ℕ)) → key_adds k seen ≡ false
    → with_key k seen ≡ seen
key-there Run seen old = refl
key-there SubRun seen old = refl
key-there (Script i) seen old = refl
key-there (Test t) seen old = binary-there t.binary_id seen old

-- the binary that a change added is removed again
binaries-back : (c : Change) (seen : List (List ℕ × ℕ)) → adds_binary c seen ≡ true
    → binaries_taken_back c (binaries_after c seen) ≡ seen
binaries-back (Start s) seen new = key-back s.key seen new
binaries-back (Stop k) seen new = refl
binaries-back Pause seen new = refl
binaries-back Resume seen new = refl
binaries-back Other seen new = refl

-- a change that adds none leaves the binaries
binaries-there : (c : Change) (seen : List (List ℕ × ℕ)) → adds_binary c seen ≡ false
    → binaries_after c seen ≡ seen
binaries-there (Start s) seen old = key-there s.key seen old
binaries-there (Stop k) seen old = refl
binaries-there Pause seen old = refl
binaries-there Resume seen old = refl
binaries-there Other seen old = refl

-- ---- states

module _ (input : TraceInput) (state : TraceState)
    (accepted : next_refusal state input ≡ None) where
  spans-are : spans_taken_back input.change (spans_opened input.change state.spans) ≡ state.spans
  spans-are =
      spans-back (suc state.number) input.change state.spans
      (next_refusal-none state input accepted).0

  with-spans : (spans : List Span) (binaries : List (List ℕ × ℕ)) → spans ≡ state.spans
      → binaries ≡ state.binaries
      → record state { spans = spans; binaries = binaries } ≡ state
  with-spans spans binaries is are = rw (is, are) refl

  -- the state is as it was, where what was opened is closed again,
  -- and the binary removed that was added, if one was
  pub taken-back : (old : TraceState) (spans : List Span) (binaries : List (List ℕ × ℕ))
      → old ≡ state_opened input state → adds_binary input.change state.binaries ≡ true
      → spans ≡ spans_taken_back input.change old.spans
      → binaries ≡ binaries_taken_back input.change old.binaries
      → record old { spans = spans; binaries = binaries } ≡ state
  taken-back old spans binaries was new is are =
      rw (was)
      (with-spans spans binaries
      (is ∙ ap (λ (s : TraceState). spans_taken_back input.change s.spans) was ∙ spans-are)
      (are ∙ ap (λ (s : TraceState). binaries_taken_back input.change s.binaries) was
      ∙ binaries-back input.change state.binaries new))

  pub taken-back-there : (old : TraceState) (spans : List Span) → old ≡ state_opened input state
      → adds_binary input.change state.binaries ≡ false
      → spans ≡ spans_taken_back input.change old.spans → record old { spans = spans } ≡ state
  taken-back-there old spans was there is =
      rw (was)
      (with-spans spans (binaries_after input.change state.binaries)
      (is ∙ ap (λ (s : TraceState). spans_taken_back input.change s.spans) was ∙ spans-are)
      (binaries-there input.change state.binaries there))
