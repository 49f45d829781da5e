-- On each row begins and ends take turns, where each start finds its row free.
use Rattle.std.proofs.Common.{◌≡◌, Bool, true, false, not, cond, List, [], ◌∷◌, ◌++◌}
use Rattle.std.proofs.Common.{ℤ, Option, Some, None, ℕ, refl, sym, ◌∙◌, ap, subst}
use Rattle.std.proofs.lemmas.List.Elements.{filter-append}
use Rattle.rec_trace_events.specs.declared.rows.Row.{Row}
use Rattle.rec_spans.proofs.Filters.{filter_comm, filter-put_no, filter-put_yes, on_row-marks}
use Rattle.rec_spans.proofs.Keys.{row_eq-true}
use Rattle.rec_spans.specs.declared.spans.Phase.TheVariants.{Begin, End}
use Rattle.rec_spans.specs.declared.spans.Phase.{Phase}
use Rattle.rec_spans.specs.declared.spans.Span.{Span}
use Rattle.rec_spans.specs.declared.spans.SpanKey.{SpanKey}
use Rattle.rec_spans.specs.History.{after, marks_after}
use Rattle.rec_spans.specs.Keys.{key_eq, row_eq}
use Rattle.rec_spans.specs.Past.Change.{Start, Stop, Pause, Resume, Other}
use Rattle.rec_spans.specs.Past.{Change, Mark, TraceInput, change_marks, event_marks}
use Rattle.rec_spans.specs.Past.{in_row, is_paused, mark, marks, of_key, open_after}
use Rattle.rec_spans.specs.Past.{open_spans, pause_after, put_in, without}
use Rattle.rec_spans.specs.Turns.{on_row, TakeTurns, left_open}

-- a start finds its key and its row free
abbrev pub FindsRoom : Change → List Span → Type 0
FindsRoom (Start s) spans = (of_key s.key spans ≡ []) × (in_row s.row spans ≡ [])
FindsRoom (Stop k) spans = Unit {0}
FindsRoom Pause spans = Unit {0}
FindsRoom Resume spans = Unit {0}
FindsRoom Other spans = Unit {0}

-- after a past each start of these events finds its key and its row free
abbrev pub AllFindRoom : List TraceInput → List TraceInput → Type 0
AllFindRoom past [] = Unit {0}
AllFindRoom past (h ∷ history) =
    FindsRoom h.change (open_spans past) × AllFindRoom (h ∷ past) history

-- turns followed by turns
pub turns-append : (o p q : Option (List ℕ)) (a b : List Mark) → TakeTurns o a p → TakeTurns p b q
    → TakeTurns o (a ++ b) q
turns-append o p q [] b h k = let P : Option (List ℕ) → Type 0 = λ v. TakeTurns v b q in subst P h k
turns-append None p q (m ∷ a) b h k = (h.0, turns-append (Some m.span.name) p q a b h.1 k)
turns-append (Some n) p q (m ∷ a) b h k = (h.0, h.1, turns-append None p q a b h.2 k)

-- at most one span
abbrev pub AtMostOne : List Span → Type 0
AtMostOne [] = Unit {0}
AtMostOne (s ∷ []) = Unit {0}
AtMostOne (s ∷ x ∷ xs) = ⊥

-- the marks of an event on a row, from what stands in the row
abbrev pub row_marks : Row → Bool → List Span → ℤ → Change → List Mark
row_marks r in_pause lane t (Start s) =
    cond (row_eq s.row r) (change_marks in_pause lane t (Start s)) []
row_marks r in_pause lane t (Stop k) = change_marks in_pause lane t (Stop k)
row_marks r in_pause lane t Pause = change_marks in_pause lane t Pause
row_marks r in_pause lane t Resume = change_marks in_pause lane t Resume
row_marks r in_pause lane t Other = []

on_row-marks_of : (r : Row) (k : SpanKey) (p : Phase) (t : ℤ) (spans : List Span)
    → on_row r (marks p t (of_key k spans)) ≡ marks p t (of_key k (in_row r spans))
on_row-marks_of r k p t spans =
    on_row-marks r p t (of_key k spans)
    ∙ ap (marks p t) (filter_comm (λ s. row_eq s.row r) (λ s. key_eq s.key k) spans)

-- the marks of an event, seen on a row
pub on_row-change_marks : (r : Row) (in_pause : Bool) (spans : List Span) (t : ℤ) (c : Change)
    → on_row r (change_marks in_pause spans t c) ≡ row_marks r in_pause (in_row r spans) t c
on_row-change_marks r true spans t (Start s) =
    elim (row_eq s.row r)
    as (λ b. cond b (mark Begin t s ∷ cond b (mark End t s ∷ []) []) (cond b (mark End t s ∷ []) [])
    ≡ cond b (mark Begin t s ∷ mark End t s ∷ []) [])
    [ true ↦ refl | false ↦ refl ]
on_row-change_marks r false spans t (Start s) =
    elim (row_eq s.row r)
    as (λ b. cond b (mark Begin t s ∷ []) [] ≡ cond b (mark Begin t s ∷ []) []) [
      | true ↦ refl
      | false ↦ refl
    ]
on_row-change_marks r true spans t (Stop k) =
    filter-append (λ m. row_eq m.span.row r) (marks Begin t (of_key k spans))
    (marks End t (of_key k spans))
    ∙ rw (on_row-marks_of r k Begin t spans, on_row-marks_of r k End t spans) refl
on_row-change_marks r false spans t (Stop k) = on_row-marks_of r k End t spans
on_row-change_marks r true spans t Pause = refl
on_row-change_marks r false spans t Pause = on_row-marks r End t spans
on_row-change_marks r true spans t Resume = on_row-marks r Begin t spans
on_row-change_marks r false spans t Resume = refl
on_row-change_marks r in_pause spans t Other = refl

-- what stands in a row after an event, from what stood in it
abbrev pub row_after : Row → Change → List Span → List Span
row_after r (Start s) lane = cond (row_eq s.row r) (s ∷ []) lane
row_after r (Stop k) lane = without k lane
row_after r Pause lane = lane
row_after r Resume lane = lane
row_after r Other lane = lane

-- what is open after an event, seen in a row
pub in_row-open_after : (r : Row) (c : Change) (spans : List Span) → FindsRoom c spans
    → in_row r (open_after c spans) ≡ row_after r c (in_row r spans)
in_row-open_after r (Start s) spans may = go (row_eq s.row r) refl
  where
    go : (b : Bool) → row_eq s.row r ≡ b
        → in_row r (put_in s spans) ≡ cond b (s ∷ []) (in_row r spans)
    go true e =
        let same : s.row ≡ r = row_eq-true s.row r e in
        let free : in_row r spans ≡ [] = subst (λ v. in_row v spans ≡ []) same may.1 in
        filter-put_yes (λ x. row_eq x.row r) s spans e free
    go false e = filter-put_no (λ x. row_eq x.row r) s spans e
in_row-open_after r (Stop k) spans may =
    filter_comm (λ s. row_eq s.row r) (λ s. not (key_eq s.key k)) spans
in_row-open_after r Pause spans may = refl
in_row-open_after r Resume spans may = refl
in_row-open_after r Other spans may = refl

-- one event, on one row
start-turns : (in_pause : Bool) (s : Span) (t : ℤ)
    → TakeTurns (left_open in_pause []) (change_marks in_pause [] t (Start s))
    (left_open in_pause (s ∷ []))
start-turns true s t = (refl, (refl, refl, refl))
start-turns false s t = (refl, refl)

stop-turns : (in_pause found : Bool) (s : Span) (t : ℤ) →
    TakeTurns (left_open in_pause (s ∷ []))
    (cond in_pause (marks Begin t (cond found (s ∷ []) [])) []
    ++ marks End t (cond found (s ∷ []) []))
    (left_open in_pause (cond (not found) (s ∷ []) []))
stop-turns true true s t = (refl, (refl, refl, refl))
stop-turns false true s t = (refl, refl, refl)
stop-turns true false s t = refl
stop-turns false false s t = refl

row-turns : (r : Row) (in_pause : Bool) (lane : List Span) (t : ℤ) (c : Change) → AtMostOne lane
    → ((s : Span) → c ≡ Start s → s.row ≡ r → lane ≡ [])
    → TakeTurns (left_open in_pause lane) (row_marks r in_pause lane t c)
    (left_open (pause_after c in_pause) (row_after r c lane))
row-turns r in_pause lane t (Start s) one free = go (row_eq s.row r) refl
  where
    go : (b : Bool) → row_eq s.row r ≡ b
        → TakeTurns (left_open in_pause lane) (cond b (change_marks in_pause lane t (Start s)) [])
        (left_open in_pause (cond b (s ∷ []) lane))
    go true e =
        let P : List Span → Type 0 = λ v. TakeTurns (left_open in_pause v)
        (change_marks in_pause lane t (Start s)) (left_open in_pause (s ∷ [])) in
        subst P (sym (free s refl (row_eq-true s.row r e))) (start-turns in_pause s t)
    go false e = refl
row-turns r true [] t (Stop k) one free = refl
row-turns r false [] t (Stop k) one free = refl
row-turns r in_pause (s ∷ []) t (Stop k) one free = stop-turns in_pause (key_eq s.key k) s t
row-turns r in_pause (s ∷ x ∷ xs) t (Stop k) one free = absurd one
row-turns r true lane t Pause one free = refl
row-turns r false [] t Pause one free = refl
row-turns r false (s ∷ []) t Pause one free = (refl, refl, refl)
row-turns r false (s ∷ x ∷ xs) t Pause one free = absurd one
row-turns r true [] t Resume one free = refl
row-turns r true (s ∷ []) t Resume one free = (refl, refl)
row-turns r true (s ∷ x ∷ xs) t Resume one free = absurd one
row-turns r false lane t Resume one free = refl
row-turns r in_pause lane t Other one free = refl

row_after-one : (r : Row) (c : Change) (lane : List Span) → AtMostOne lane
    → AtMostOne (row_after r c lane)
row_after-one r (Start s) lane one =
    elim (row_eq s.row r) as (λ b. AtMostOne (cond b (s ∷ []) lane)) [ true ↦ tt | false ↦ one ]
row_after-one r (Stop k) [] one = tt
row_after-one r (Stop k) (s ∷ []) one =
    elim (not (key_eq s.key k)) as (λ b. AtMostOne (cond b (s ∷ []) [])) [ true ↦ tt | false ↦ tt ]
row_after-one r (Stop k) (s ∷ x ∷ xs) one = absurd one
row_after-one r Pause lane one = one
row_after-one r Resume lane one = one
row_after-one r Other lane one = one

-- where a start finds room, its row is free
row-free : (c : Change) (spans : List Span) → FindsRoom c spans → (s : Span) → c ≡ Start s
    → (r : Row) → s.row ≡ r → in_row r spans ≡ []
row-free c spans room s is r at =
    let P : Change → Type 0 = λ v. FindsRoom v spans in
    subst (λ v. in_row v spans ≡ []) at (subst P is room).1

-- on each row of which at most one span is open, begins and ends take turns from there on
pub turns-after : (r : Row) (past history : List TraceInput) → AllFindRoom past history
    → AtMostOne (in_row r (open_spans past)) →
    TakeTurns (left_open (is_paused past) (in_row r (open_spans past)))
    (on_row r (marks_after past history))
    (left_open (is_paused (after past history)) (in_row r (open_spans (after past history))))
turns-after r past [] room one = refl
turns-after r past (h ∷ history) room one =
    let spans = open_spans past in
    let lane = in_row r spans in
    let paused = is_paused past in
    let lane' = in_row r (open_spans (h ∷ past)) in
    let paused' = is_paused (h ∷ past) in
    let last = left_open (is_paused (after (h ∷ past) history))
    (in_row r (open_spans (after (h ∷ past) history))) in
    let moved : lane' ≡ row_after r h.change lane = in_row-open_after r h.change spans room.0 in
    let one' : AtMostOne lane' = subst AtMostOne (sym moved) (row_after-one r h.change lane one) in
    let step : TakeTurns (left_open paused lane) (row_marks r paused lane h.at h.change)
    (left_open paused' (row_after r h.change lane)) =
    row-turns r paused lane h.at h.change one
    (λ s is at. row-free h.change spans room.0 s is r at) in
    let first : TakeTurns (left_open paused lane) (on_row r (event_marks past h))
    (left_open paused' lane') =
    subst (λ v. TakeTurns (left_open paused lane) v (left_open paused' lane'))
    (sym (on_row-change_marks r paused spans h.at h.change))
    (subst (λ w. TakeTurns (left_open paused lane) (row_marks r paused lane h.at h.change)
    (left_open paused' w)) (sym moved) step) in
    subst (λ v. TakeTurns (left_open paused lane) v last) (sym (filter-append
    (λ m. row_eq m.span.row r) (event_marks past h) (marks_after (h ∷ past) history)))
    (turns-append (left_open paused lane) (left_open paused' lane') last
    (on_row r (event_marks past h)) (on_row r (marks_after (h ∷ past) history)) first
    (turns-after r (h ∷ past) history room.1 one'))

-- on each row begins and ends take turns, and what they leave open is the span that is open there
pub room-turns : (history : List TraceInput) → AllFindRoom [] history → (r : Row) →
    TakeTurns None (on_row r (marks_after [] history))
    (left_open (is_paused (after [] history)) (in_row r (open_spans (after [] history))))
room-turns history room r = turns-after r [] history room tt
