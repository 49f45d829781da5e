-- Each begin and each end stands once among the marks of an event.
use Rattle.std.proofs.Common.{◌≡◌, Bool, true, false, not, cond, List, [], ◌∷◌, ◌++◌}
use Rattle.std.proofs.Common.{filter, ℕ, ℤ, take, drop, refl, sym, subst, inl, inr}
use Rattle.std.proofs.lemmas.List.{take-append-drop}
use Rattle.rec_spans.proofs.EventMarks.{Has-append, marks-to}
use Rattle.rec_spans.proofs.PlacesOfHistory.{Has-put_in, Has-filter, Has-of_key}
use Rattle.rec_spans.proofs.Prefixes.{after-is_reverse, room-append}
use Rattle.rec_spans.proofs.Rows.{FindsRoom, AllFindRoom}
use Rattle.rec_spans.specs.declared.spans.Phase.TheVariants.{Begin, End}
use Rattle.rec_spans.specs.declared.spans.Phase.{Phase}
use Rattle.rec_spans.specs.declared.spans.Span.{Span}
use Rattle.rec_spans.specs.History.{after}
use Rattle.rec_spans.specs.Keys.{key_eq}
use Rattle.rec_spans.specs.Past.Change.{Start, Stop, Pause, Resume, Other}
use Rattle.rec_spans.specs.Past.{Change, TraceInput, change_marks, event_marks, is_paused}
use Rattle.rec_spans.specs.Past.{mark, marks, of_key, open_after, open_spans, put_in}
use Rattle.rec_spans.specs.Places.{place_lt}
use Rattle.rec_spans.specs.Positions.{past_at, Has, IsOnce}

IsOnce-filter : {X : Type 0} (p : X → Bool) (xs : List X) → IsOnce xs → IsOnce (filter p xs)
IsOnce-filter p [] once = tt
IsOnce-filter {X} p (x ∷ xs) once = go (p x) (IsOnce-filter p xs once.1)
  where
    go : (b : Bool) → IsOnce (filter p xs) → IsOnce (cond b (x ∷ filter p xs) (filter p xs))
    go true ih = ((λ h. once.0 ((Has-filter p x xs).0 h).0), ih)
    go false ih = ih

IsOnce-put_in : (s : Span) (xs : List Span) → (Has xs s → ⊥) → IsOnce xs → IsOnce (put_in s xs)
IsOnce-put_in s [] none once = ((λ h. h), tt)
IsOnce-put_in s (x ∷ xs) none once =
    go (place_lt s.place x.place) (IsOnce-put_in s xs (λ h. none (inr h)) once.1)
  where
    go : (b : Bool) → IsOnce (put_in s xs) → IsOnce (cond b (s ∷ x ∷ xs) (x ∷ put_in s xs))
    go true ih = (none, once)
    go false ih = (
      (λ h. elim ((Has-put_in s x xs).0 h) [ inl e ↦ none (inl (sym e)) | inr w ↦ once.0 w ]),
      ih,
    )

free-none : (s : Span) (xs : List Span) → of_key s.key xs ≡ [] → Has xs s → ⊥
free-none s xs free h = subst (λ v. Has v s) free ((Has-of_key s.key s xs).1 (h, refl))

-- after a past without a span twice, events that find room leave no span open twice
pub open-once_after : (past hs : List TraceInput) → AllFindRoom past hs → IsOnce (open_spans past)
    → IsOnce (open_spans (after past hs))
open-once_after past [] room once = once
open-once_after past (h ∷ hs) room once =
    open-once_after (h ∷ past) hs room.1 (go h.change room.0 once)
  where
    go : (c : Change) → FindsRoom c (open_spans past) → IsOnce (open_spans past)
        → IsOnce (open_after c (open_spans past))
    go (Start s) free once =
        IsOnce-put_in s (open_spans past) (free-none s (open_spans past) free.0) once
    go (Stop k) free once = IsOnce-filter (λ s. not (key_eq s.key k)) (open_spans past) once
    go Pause free once = once
    go Resume free once = once
    go Other free once = once

-- no span is open twice
pub open-once : (hs : List TraceInput) → AllFindRoom [] hs → IsOnce (open_spans (after [] hs))
open-once hs room = open-once_after [] hs room tt

-- no span is open twice at a place
pub open-once_at : (hs : List TraceInput) (i : ℕ) → AllFindRoom [] hs
    → IsOnce (open_spans (past_at hs i))
open-once_at hs i room =
    subst (λ v. IsOnce (open_spans v)) (after-is_reverse (take i hs))
    (open-once (take i hs) (room-append [] (take i hs) (drop i hs)
    (subst (AllFindRoom []) (sym (take-append-drop i hs)) room)).0)

marks-once : (p : Phase) (t : ℤ) (xs : List Span) → IsOnce xs → IsOnce (marks p t xs)
marks-once p t [] once = tt
marks-once p t (x ∷ xs) once = ((λ h. once.0 (marks-to p p t t xs x h).2), marks-once p t xs once.1)

begin-end : (t : ℤ) (xs ys : List Span) → IsOnce xs → IsOnce ys
    → IsOnce (marks Begin t xs ++ marks End t ys)
begin-end t [] ys a b = marks-once End t ys b
begin-end t (x ∷ xs) ys a b = (
  (λ h. elim ((Has-append (marks Begin t xs) (marks End t ys) (mark Begin t x)).0 h) [
    | inl w ↦ a.0 (marks-to Begin Begin t t xs x w).2
    | inr w ↦ (let e : End ≡ Begin = (marks-to End Begin t t ys x w).0 in cc)
  ]),
  begin-end t xs ys a.1 b,
)

-- where no span is open twice, each begin and each end stands once among the marks of an event
pub event_marks-once_of : (past : List TraceInput) (e : TraceInput) → IsOnce (open_spans past)
    → IsOnce (event_marks past e)
event_marks-once_of past e once = go (is_paused past) e.change once
  where
    go : (p : Bool) (c : Change) → IsOnce (open_spans past)
        → IsOnce (change_marks p (open_spans past) e.at c)
    go true (Start s) once = begin-end e.at (s ∷ []) (s ∷ []) ((λ h. h), tt) ((λ h. h), tt)
    go false (Start s) once = ((λ h. h), tt)
    go true (Stop k) once =
        let f = IsOnce-filter (λ s. key_eq s.key k) (open_spans past) once in
        begin-end e.at (of_key k (open_spans past)) (of_key k (open_spans past)) f f
    go false (Stop k) once =
        marks-once End e.at (of_key k (open_spans past))
        (IsOnce-filter (λ s. key_eq s.key k) (open_spans past) once)
    go true Pause once = tt
    go false Pause once = marks-once End e.at (open_spans past) once
    go true Resume once = marks-once Begin e.at (open_spans past) once
    go false Resume once = tt
    go p Other once = tt

-- each begin and each end stands once among the marks of the event at a place
pub event_marks-once : (hs : List TraceInput) (i : ℕ) (h : TraceInput) → AllFindRoom [] hs
    → IsOnce (event_marks (past_at hs i) h)
event_marks-once hs i h room = event_marks-once_of (past_at hs i) h (open-once_at hs i room)
