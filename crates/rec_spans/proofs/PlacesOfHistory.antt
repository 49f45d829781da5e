-- The past at a place of a history: whether it is in a pause there, and what is open there.
use Rattle.std.proofs.Common.{◌≡◌, ◌≢◌, ◌<◌, ◌≤◌, ◌⊎◌, ◌↔◌, ℕ, zero, suc, Bool, true, false, not}
use Rattle.std.proofs.Common.{cond, List, [], ◌∷◌, ◌++◌, filter, reverse, take, length, slice_get}
use Rattle.std.proofs.Common.{Some, option_map, refl, sym, ◌∙◌, ap, subst, arith, inl, inr}
use Rattle.std.proofs.lemmas.Bool.{false_from_ne_true}
use Rattle.std.proofs.lemmas.List.{reverse-append}
use Rattle.rec_spans.proofs.Keys.{key_eq-true, key_eq-from}
use Rattle.rec_spans.specs.declared.spans.Span.{Span}
use Rattle.rec_spans.specs.declared.spans.SpanKey.{SpanKey}
use Rattle.rec_spans.specs.Keys.{key_eq}
use Rattle.rec_spans.specs.Past.Change.{Start, Stop, Pause, Resume, Other}
use Rattle.rec_spans.specs.Past.{Change, TraceInput, is_paused, of_key, open_after}
use Rattle.rec_spans.specs.Past.{open_spans, pause_after, put_in, without}
use Rattle.rec_spans.specs.Places.{place_lt}
use Rattle.rec_spans.specs.Positions.{change_at, past_at, Has, IsInPause, IsOpen}

-- there is an event at each place
pub event_at : (history : List TraceInput) (i : ℕ) → i < length history
    → (e : TraceInput) × (slice_get history i ≡ Some e)
event_at [] i lt = absurd (omega arith)
event_at (x ∷ history) zero lt = (x, refl)
event_at (x ∷ history) (suc i) lt = event_at history i (omega arith)

-- a place with an event is below the count of events
pub below_length : (history : List TraceInput) (i : ℕ) (e : TraceInput)
    → slice_get history i ≡ Some e → i < length history
below_length [] i e is = cc
below_length (x ∷ history) zero e is = omega arith
below_length (x ∷ history) (suc i) e is = let lt = below_length history i e is in omega arith

-- the events up to and with a place
pub take-place : (history : List TraceInput) (i : ℕ) (e : TraceInput) → slice_get history i ≡ Some e
    → take (suc i) history ≡ take i history ++ e ∷ []
take-place [] i e is = cc
take-place (x ∷ history) zero e is = cc
take-place (x ∷ history) (suc i) e is = ap (λ v. x ∷ v) (take-place history i e is)

-- the past one place on
pub past_at-suc : (history : List TraceInput) (i : ℕ) (e : TraceInput)
    → slice_get history i ≡ Some e → past_at history (suc i) ≡ e ∷ past_at history i
past_at-suc history i e is =
    ap reverse (take-place history i e is) ∙ reverse-append (take i history) (e ∷ [])

-- two cases of a place up to i
pub below_suc : (k i : ℕ) → k < suc i → (k ≡ i) ⊎ (k < i)
below_suc k i lt = grind arith

-- in a pause, one place on
pause-suc : (history : List TraceInput) (i : ℕ) → IsInPause history (suc i)
    → (change_at history i ≡ Some Pause)
    ⊎ (IsInPause history i × (change_at history i ≢ Some Resume))
pause-suc history i (j, lt, is, none) =
    elim (below_suc j i lt) [
      | inl e ↦ inl (subst (λ v. change_at history v ≡ Some Pause) e is)
      | inr below ↦
          inr ((j, below, is, (λ k a b. none k a (omega arith))), (none i below (omega arith)).1)
    ]

-- a pause goes on over what is no pause and no continuation
pub pause-extend : (history : List TraceInput) (i : ℕ) → change_at history i ≢ Some Pause
    → change_at history i ≢ Some Resume → IsInPause history i → IsInPause history (suc i)
pause-extend history i no_pause no_resume (j, lt, is, none) = (
  j,
  omega arith,
  is,
  (λ k a b. elim (below_suc k i b) [
    | inl e ↦ (
      subst (λ v. change_at history v ≢ Some Pause) (sym e) no_pause,
      subst (λ v. change_at history v ≢ Some Resume) (sym e) no_resume,
    )
    | inr below ↦ none k a below
  ]),
)

pause-one : (history : List TraceInput) (i : ℕ) (c : Change) (b : Bool)
    → change_at history i ≡ Some c → (IsInPause history i ↔ (b ≡ true))
    → IsInPause history (suc i) ↔ (pause_after c b ≡ true)
pause-one history i Pause b is ih =
    ((λ x. refl), (λ x. (i, omega arith, is, (λ k a c. absurd (omega arith)))))
pause-one history i Resume b is ih =
    ((λ x. elim (pause-suc history i x) [ inl e ↦ cc | inr w ↦ absurd (w.1 is) ]), (λ x. cc))
pause-one history i (Start s) b is ih = (
  (λ x. elim (pause-suc history i x) [ inl e ↦ cc | inr w ↦ ih.0 w.0 ]),
  (λ x. pause-extend history i (λ e. cc) (λ e. cc) (ih.1 x)),
)
pause-one history i (Stop k) b is ih = (
  (λ x. elim (pause-suc history i x) [ inl e ↦ cc | inr w ↦ ih.0 w.0 ]),
  (λ x. pause-extend history i (λ e. cc) (λ e. cc) (ih.1 x)),
)
pause-one history i Other b is ih = (
  (λ x. elim (pause-suc history i x) [ inl e ↦ cc | inr w ↦ ih.0 w.0 ]),
  (λ x. pause-extend history i (λ e. cc) (λ e. cc) (ih.1 x)),
)

-- what the event at a place does
pub change_at-is : (history : List TraceInput) (i : ℕ) (e : TraceInput)
    → slice_get history i ≡ Some e → change_at history i ≡ Some e.change
change_at-is history i e is = ap (λ o. option_map (λ x. x.change) o) is

-- the flag of the past at a place is that of the place
pub pause-is : (history : List TraceInput) (i : ℕ) → i ≤ length history
    → IsInPause history i ↔ (is_paused (past_at history i) ≡ true)
pause-is history zero le = ((λ (j, lt, is, none). absurd (omega arith)), (λ x. cc))
pause-is history (suc i) le =
    let at = event_at history i le in
    let e = at.0 in
    rw (past_at-suc history i e at.1) (pause-one history i e.change (is_paused (past_at history i))
    (change_at-is history i e at.1) (pause-is history i (omega arith)))

-- open, one place on
open-suc : (history : List TraceInput) (i : ℕ) (s : Span) → IsOpen history (suc i) s
    → (change_at history i ≡ Some (Start s))
    ⊎ (IsOpen history i s × (change_at history i ≢ Some (Stop s.key)))
open-suc history i s (a, lt, is, none) =
    elim (below_suc a i lt) [
      | inl e ↦ inl (subst (λ v. change_at history v ≡ Some (Start s)) e is)
      | inr below ↦
          inr ((a, below, is, (λ k p q. none k p (omega arith))), none i below (omega arith))
    ]

open-start : (history : List TraceInput) (i : ℕ) (s : Span) → change_at history i ≡ Some (Start s)
    → IsOpen history (suc i) s
open-start history i s is = (i, omega arith, is, (λ k a b. absurd (omega arith)))

open-extend : (history : List TraceInput) (i : ℕ) (s : Span)
    → change_at history i ≢ Some (Stop s.key) → IsOpen history i s → IsOpen history (suc i) s
open-extend history i s no_stop (a, lt, is, none) = (
  a,
  omega arith,
  is,
  (λ k p q. elim (below_suc k i q) [
    | inl e ↦ subst (λ v. change_at history v ≢ Some (Stop s.key)) (sym e) no_stop
    | inr below ↦ none k p below
  ]),
)

-- what is there when a span is put in
pub Has-put_in : (s x : Span) (xs : List Span) → Has (put_in s xs) x ↔ ((s ≡ x) ⊎ Has xs x)
Has-put_in s x [] = ((λ h. h), (λ h. h))
Has-put_in s x (y ∷ ys) =
    let ih = Has-put_in s x ys in
    elim (place_lt s.place y.place)
    as (λ b. Has (cond b (s ∷ y ∷ ys) (y ∷ put_in s ys)) x ↔ ((s ≡ x) ⊎ ((y ≡ x) ⊎ Has ys x))) [
      | true ↦ ((λ h. h), (λ h. h))
      | false ↦ (
        (λ h. elim h [
          | inl e ↦ inr (inl e)
          | inr w ↦ elim (ih.0 w) [ inl e ↦ inl e | inr v ↦ inr (inr v) ]
        ]),
        (λ h. elim h [
          | inl e ↦ inr (ih.1 (inl e))
          | inr w ↦ elim w [ inl e ↦ inl e | inr v ↦ inr (ih.1 (inr v)) ]
        ]),
      )
    ]

-- what passes a filter
pub Has-filter : {X : Type 0} (p : X → Bool) (x : X) (xs : List X)
    → Has (filter p xs) x ↔ (Has xs x × (p x ≡ true))
Has-filter p x [] = ((λ h. absurd h), (λ h. absurd h.0))
Has-filter {X} p x (y ∷ ys) = go (p y) refl (Has-filter p x ys)
  where
    no : p y ≡ false → y ≡ x → p x ≡ true → ⊥
    no e same t = cc (ap p same)

    go : (b : Bool) → p y ≡ b → Has (filter p ys) x ↔ (Has ys x × (p x ≡ true))
        → Has (cond b (y ∷ filter p ys) (filter p ys)) x ↔ (((y ≡ x) ⊎ Has ys x) × (p x ≡ true))
    go true e ih = (
      (λ h. elim h [
        | inl same ↦ (inl same, ap p (sym same) ∙ e)
        | inr w ↦ (inr (ih.0 w).0, (ih.0 w).1)
      ]),
      (λ h. elim h.0 [ inl same ↦ inl same | inr w ↦ inr (ih.1 (w, h.1)) ]),
    )
    go false e ih = (
      (λ h. (inr (ih.0 h).0, (ih.0 h).1)),
      (λ h. elim h.0 [ inl same ↦ absurd (no e same h.1) | inr w ↦ ih.1 (w, h.1) ]),
    )

-- the spans of a key
pub Has-of_key : (k : SpanKey) (x : Span) (xs : List Span)
    → Has (of_key k xs) x ↔ (Has xs x × (x.key ≡ k))
Has-of_key k x xs =
    let f = Has-filter (λ s. key_eq s.key k) x xs in
    ((λ h. ((f.0 h).0, key_eq-true x.key k (f.0 h).1)), (λ h. f.1 (h.0, key_eq-from x.key k h.1)))

-- the spans of every other key
pub Has-without : (k : SpanKey) (x : Span) (xs : List Span)
    → Has (without k xs) x ↔ (Has xs x × (x.key ≢ k))
Has-without k x xs =
    let f = Has-filter (λ s. not (key_eq s.key k)) x xs in (
      (λ h. ((f.0 h).0, other (f.0 h).1)),
      (λ h. f.1
          (h.0, ap not (false_from_ne_true (key_eq x.key k) (λ t. h.1 (key_eq-true x.key k t))))),
    )
  where
    other : not (key_eq x.key k) ≡ true → x.key ≢ k
    other t e = let same : key_eq x.key k ≡ true = key_eq-from x.key k e in cc

open-one : (history : List TraceInput) (i : ℕ) (c : Change) (spans : List Span) (s : Span)
    → change_at history i ≡ Some c → (IsOpen history i s ↔ Has spans s)
    → IsOpen history (suc i) s ↔ Has (open_after c spans) s
open-one history i (Start x) spans s is ih =
    let f = Has-put_in x s spans in (
      (λ w. elim (open-suc history i s w) [ inl e ↦ f.1 (inl cc) | inr v ↦ f.1 (inr (ih.0 v.0)) ]),
      (λ w. elim (f.0 w) [
        | inl e ↦ open-start history i s (is ∙ ap (λ v. Some (Start v)) e)
        | inr v ↦ open-extend history i s (λ e. cc) (ih.1 v)
      ]),
    )
open-one history i (Stop k) spans s is ih =
    let f = Has-without k s spans in (
      (λ w. elim (open-suc history i s w) [
        | inl e ↦ cc
        | inr v ↦ f.1 (ih.0 v.0, (λ e. v.1 (is ∙ ap (λ n. Some (Stop n)) (sym e))))
      ]),
      (λ w. open-extend history i s (λ e. (f.0 w).1 cc) (ih.1 (f.0 w).0)),
    )
open-one history i Pause spans s is ih = (
  (λ w. elim (open-suc history i s w) [ inl e ↦ cc | inr v ↦ ih.0 v.0 ]),
  (λ w. open-extend history i s (λ e. cc) (ih.1 w)),
)
open-one history i Resume spans s is ih = (
  (λ w. elim (open-suc history i s w) [ inl e ↦ cc | inr v ↦ ih.0 v.0 ]),
  (λ w. open-extend history i s (λ e. cc) (ih.1 w)),
)
open-one history i Other spans s is ih = (
  (λ w. elim (open-suc history i s w) [ inl e ↦ cc | inr v ↦ ih.0 v.0 ]),
  (λ w. open-extend history i s (λ e. cc) (ih.1 w)),
)

-- the open spans of the past at a place are those of the place
pub open-is : (history : List TraceInput) (i : ℕ) (s : Span) → i ≤ length history
    → IsOpen history i s ↔ Has (open_spans (past_at history i)) s
open-is history zero s le = ((λ (a, lt, is, none). absurd (omega arith)), (λ x. absurd x))
open-is history (suc i) s le =
    let at = event_at history i le in
    let e = at.0 in
    rw (past_at-suc history i e at.1) (open-one history i e.change (open_spans (past_at history i))
    s (change_at-is history i e at.1) (open-is history i s (omega arith)))
