-- What the marks of a span add up to: its time without its time in pauses.
use Rattle.std.proofs.Common.{◌≡◌, ◌≢◌, Bool, true, false, not, cond, if◌then◌else◌}
use Rattle.std.proofs.Common.{List, [], ◌∷◌, ◌++◌, map, filter, ℤ, pos, ◌+ℤ◌, ◌-ℤ◌}
use Rattle.std.proofs.Common.{refl, sym, ◌∙◌, ap, subst, arith, inl, inr}
use Rattle.std.proofs.lemmas.Int.{ints}
use Rattle.std.proofs.lemmas.List.Elements.{filter-append}
use Rattle.std.proofs.lemmas.List.{map-append}
use Rattle.rec_trace_events.specs.declared.rows.Row.{Row}
use Rattle.rec_spans.proofs.Keys.{key_eq-self, key_eq-true, row_eq-self, row_eq-true}
use Rattle.rec_spans.proofs.Rows.{AllFindRoom, FindsRoom, in_row-open_after}
use Rattle.rec_spans.proofs.Rows.{on_row-change_marks, row_after, row_marks}
use Rattle.rec_spans.specs.declared.spans.Phase.TheVariants.{Begin, End}
use Rattle.rec_spans.specs.declared.spans.Span.{Span}
use Rattle.rec_spans.specs.declared.spans.SpanKey.{SpanKey}
use Rattle.rec_spans.specs.History.{marks_after}
use Rattle.rec_spans.specs.Keys.{key_eq, row_eq}
use Rattle.rec_spans.specs.Past.Change.{Start, Stop, Pause, Resume, Other}
use Rattle.rec_spans.specs.Past.{Change, Mark, TraceInput, change_marks, event_marks, in_row}
use Rattle.rec_spans.specs.Past.{is_paused, mark, marks, open_after, open_spans, pause_after}
use Rattle.rec_spans.specs.Positions.{Has}
use Rattle.rec_spans.specs.Times.{begin_times, end_times, is_begin, marked_time, total}
use Rattle.rec_spans.specs.Turns.{on_row}

-- ---- marks of one span

-- all these marks are of the span
abbrev pub AllOf : Span → List Mark → Type 0
AllOf s [] = Unit {0}
AllOf s (m ∷ ms) = (m.span ≡ s) × AllOf s ms

-- these marks are of the span, and have this time
abbrev pub Count : Span → ℤ → List Mark → Type 0
Count s time ms = (marked_time ms ≡ time) × AllOf s ms

pub all-has : (s : Span) (ms : List Mark) → AllOf s ms → (m : Mark) → Has ms m → m.span ≡ s
all-has s [] all m h = absurd h
all-has s (x ∷ ms) all m h =
    elim h [ inl e ↦ ap (λ (v : Mark). v.span) (sym e) ∙ all.0 | inr w ↦ all-has s ms all.1 m w ]

all-append : (s : Span) (xs ys : List Mark) → AllOf s xs → AllOf s ys → AllOf s (xs ++ ys)
all-append s [] ys a b = b
all-append s (x ∷ xs) ys a b = (a.0, all-append s xs ys a.1 b)

total-append : (xs ys : List ℤ) → total (xs ++ ys) ≡ total xs +ℤ total ys
total-append [] ys = omega (arith, ints)
total-append (x ∷ xs) ys =
    let ih = total-append xs ys in
    let g : (x a b c : ℤ) → c ≡ a +ℤ b → x +ℤ c ≡ (x +ℤ a) +ℤ b =
    λ x a b c h. omega (arith, ints) in
    g x (total xs) (total ys) (total (xs ++ ys)) ih

ends-append : (xs ys : List Mark)
    → total (end_times (xs ++ ys)) ≡ total (end_times xs) +ℤ total (end_times ys)
ends-append xs ys =
    let p : Mark → Bool = λ m. not (is_begin m.phase) in
    let at : Mark → ℤ = λ m. m.at in
    ap (λ v. total (map at v)) (filter-append p xs ys)
    ∙ (ap total (map-append at (filter p xs) (filter p ys))
    ∙ total-append (end_times xs) (end_times ys))

begins-append : (xs ys : List Mark)
    → total (begin_times (xs ++ ys)) ≡ total (begin_times xs) +ℤ total (begin_times ys)
begins-append xs ys =
    let p : Mark → Bool = λ m. is_begin m.phase in
    let at : Mark → ℤ = λ m. m.at in
    ap (λ v. total (map at v)) (filter-append p xs ys)
    ∙ (ap total (map-append at (filter p xs) (filter p ys))
    ∙ total-append (begin_times xs) (begin_times ys))

-- the times of two lists add up
marked-append : (xs ys : List Mark) → marked_time (xs ++ ys) ≡ marked_time xs +ℤ marked_time ys
marked-append xs ys =
    let e = ends-append xs ys in
    let b = begins-append xs ys in
    let g : (e e1 e2 b b1 b2 : ℤ) → e ≡ e1 +ℤ e2 → b ≡ b1 +ℤ b2
    → e -ℤ b ≡ (e1 -ℤ b1) +ℤ (e2 -ℤ b2) =
    λ e e1 e2 b b1 b2 h k. omega (arith, ints) in
    g (total (end_times (xs ++ ys))) (total (end_times xs)) (total (end_times ys))
    (total (begin_times (xs ++ ys))) (total (begin_times xs)) (total (begin_times ys)) e b

count-append : (s : Span) (x y : ℤ) (xs ys : List Mark) → Count s x xs → Count s y ys
    → Count s (x +ℤ y) (xs ++ ys)
count-append s x y xs ys a b = (
  marked-append xs ys ∙ (ap (λ v. v +ℤ marked_time ys) a.0 ∙ ap (λ v. x +ℤ v) b.0),
  all-append s xs ys a.1 b.1,
)

count-is : (s : Span) (x y : ℤ) (ms : List Mark) → x ≡ y → Count s x ms → Count s y ms
count-is s x y ms e c = (c.0 ∙ e, c.1)

-- ---- one event

-- the instant of a begin that is open, or nothing in a pause
abbrev pub open_from : Bool → ℤ → ℤ
open_from in_pause t = if in_pause then pos 0 else t

none-count : (s : Span) → Count s (pos 0) []
none-count s = (omega (arith, ints), tt)

begin-count : (s : Span) (t : ℤ) → Count s (pos 0 -ℤ t) (mark Begin t s ∷ [])
begin-count s t = (omega (arith, ints), (refl, tt))

end-count : (s : Span) (t : ℤ) → Count s t (mark End t s ∷ [])
end-count s t = (omega (arith, ints), (refl, tt))

both-count : (s : Span) (t : ℤ) → Count s (pos 0) (mark Begin t s ∷ mark End t s ∷ [])
both-count s t = (omega (arith, ints), (refl, (refl, tt)))

-- an event inside the span
inner-count : (s : Span) (in_pause : Bool) (t : ℤ) (c : Change) → c ≢ Stop s.key
    → ((x : Span) → c ≡ Start x → x.row ≢ s.row) →
    Count s (open_from in_pause t -ℤ open_from (pause_after c in_pause) t)
    (row_marks s.row in_pause (s ∷ []) t c)
inner-count s in_pause t (Start x) other apart = go (row_eq x.row s.row) refl
  where
    go : (b : Bool) → row_eq x.row s.row ≡ b
        → Count s (open_from in_pause t -ℤ open_from in_pause t)
        (cond b (change_marks in_pause (s ∷ []) t (Start x)) [])
    go true e = absurd (apart x refl (row_eq-true x.row s.row e))
    go false e =
        count-is s (pos 0) (open_from in_pause t -ℤ open_from in_pause t) []
        (let g : (v : ℤ) → pos 0 ≡ v -ℤ v = λ v. omega (arith, ints) in g (open_from in_pause t))
        (none-count s)
inner-count s in_pause t (Stop k) other apart = go in_pause (key_eq s.key k) refl
  where
    go : (p b : Bool) → key_eq s.key k ≡ b
        → Count s (open_from p t -ℤ open_from p t)
        ((if p then marks Begin t (cond b (s ∷ []) []) else []) ++ marks End t (cond b (s ∷ []) []))
    go p true e = absurd (other (ap Stop (sym (key_eq-true s.key k e))))
    go true false e = count-is s (pos 0) (pos 0 -ℤ pos 0) [] (omega (arith, ints)) (none-count s)
    go false false e = count-is s (pos 0) (t -ℤ t) [] (omega (arith, ints)) (none-count s)
inner-count s true t Pause other apart =
    count-is s (pos 0) (pos 0 -ℤ pos 0) [] (omega (arith, ints)) (none-count s)
inner-count s false t Pause other apart =
    count-is s t (t -ℤ pos 0) (mark End t s ∷ []) (omega (arith, ints)) (end-count s t)
inner-count s true t Resume other apart = begin-count s t
inner-count s false t Resume other apart =
    count-is s (pos 0) (t -ℤ t) [] (omega (arith, ints)) (none-count s)
inner-count s true t Other other apart =
    count-is s (pos 0) (pos 0 -ℤ pos 0) [] (omega (arith, ints)) (none-count s)
inner-count s false t Other other apart =
    count-is s (pos 0) (t -ℤ t) [] (omega (arith, ints)) (none-count s)

-- the event that ends the span
last-count : (s : Span) (in_pause : Bool) (t : ℤ)
    → Count s (open_from in_pause t) (row_marks s.row in_pause (s ∷ []) t (Stop s.key))
last-count s in_pause t = go in_pause (key_eq s.key s.key) (key_eq-self s.key)
  where
    go : (p b : Bool) → b ≡ true
        → Count s (open_from p t)
        ((if p then marks Begin t (cond b (s ∷ []) []) else []) ++ marks End t (cond b (s ∷ []) []))
    go true true e = both-count s t
    go false true e = end-count s t
    go p false e = cc

-- the event that starts the span
first-count : (s : Span) (in_pause : Bool) (t : ℤ)
    → Count s (pos 0 -ℤ open_from in_pause t) (row_marks s.row in_pause [] t (Start s))
first-count s in_pause t = go in_pause (row_eq s.row s.row) (row_eq-self s.row)
  where
    go : (p b : Bool) → b ≡ true
        → Count s (pos 0 -ℤ open_from p t) (cond b (change_marks p [] t (Start s)) [])
    go true true e =
        count-is s (pos 0) (pos 0 -ℤ pos 0) (mark Begin t s ∷ mark End t s ∷ [])
        (omega (arith, ints)) (both-count s t)
    go false true e = begin-count s t
    go p false e = cc

-- ---- what stands in the row

on_row-first : (r : Row) (past : List TraceInput) (e : TraceInput) (more : List Mark)
    (lane : List Span)
    → in_row r (open_spans past) ≡ lane →
    on_row r (event_marks past e ++ more)
    ≡ row_marks r (is_paused past) lane e.at e.change ++ on_row r more
on_row-first r past e more lane is =
    filter-append (λ m. row_eq m.span.row r) (event_marks past e) more
    ∙ ap (λ v. v ++ on_row r more)
    (on_row-change_marks r (is_paused past) (open_spans past) e.at e.change
    ∙ ap (λ v. row_marks r (is_paused past) v e.at e.change) is)

-- a start that finds room while the span is open stands on another row
apart_from : (s : Span) (c : Change) (spans : List Span) → in_row s.row spans ≡ s ∷ []
    → FindsRoom c spans → (x : Span) → c ≡ Start x → x.row ≢ s.row
apart_from s c spans is room x at same =
    let P : Change → Type 0 = λ v. FindsRoom v spans in
    let free : in_row s.row spans ≡ [] =
    subst (λ r. in_row r spans ≡ []) same (subst P at room).1 in
    cc

row_after-kept : (s : Span) (c : Change) → c ≢ Stop s.key
    → ((x : Span) → c ≡ Start x → x.row ≢ s.row) → row_after s.row c (s ∷ []) ≡ s ∷ []
row_after-kept s (Start x) other apart = go (row_eq x.row s.row) refl
  where
    go : (b : Bool) → row_eq x.row s.row ≡ b → cond b (x ∷ []) (s ∷ []) ≡ s ∷ []
    go true e = absurd (apart x refl (row_eq-true x.row s.row e))
    go false e = refl
row_after-kept s (Stop k) other apart = go (key_eq s.key k) refl
  where
    go : (b : Bool) → key_eq s.key k ≡ b → cond (not b) (s ∷ []) [] ≡ s ∷ []
    go true e = absurd (other (ap Stop (sym (key_eq-true s.key k e))))
    go false e = refl
row_after-kept s Pause other apart = refl
row_after-kept s Resume other apart = refl
row_after-kept s Other other apart = refl

-- ---- all events of the span

-- the time from an instant over these events, in the gaps that are in a pause
abbrev pub paused_time : ℤ → List TraceInput → List TraceInput → ℤ
paused_time t past [] = pos 0
paused_time t past (e ∷ events) =
    (if is_paused past then e.at -ℤ t else pos 0) +ℤ paused_time e.at (e ∷ past) events

-- none of these events stops the key
abbrev pub NoStop : SpanKey → List TraceInput → Type 0
NoStop k [] = Unit {0}
NoStop k (e ∷ events) = (e.change ≢ Stop k) × NoStop k events

-- one event and what follows it
one-more : (p : Bool) (t t' last w P : ℤ)
    → (open_from p t' -ℤ w) +ℤ (((last -ℤ t') -ℤ P) +ℤ w)
    ≡ ((last -ℤ t) -ℤ ((if p then t' -ℤ t else pos 0) +ℤ P)) +ℤ open_from p t
one-more true t t' last w P = omega (arith, ints)
one-more false t t' last w P = omega (arith, ints)

the-last : (p : Bool) (t last : ℤ)
    → open_from p last +ℤ pos 0
    ≡ ((last -ℤ t) -ℤ ((if p then last -ℤ t else pos 0) +ℤ pos 0)) +ℤ open_from p t
the-last true t last = omega (arith, ints)
the-last false t last = omega (arith, ints)

-- from any instant inside the span on
rest-count : (s : Span) (middle : List TraceInput) (last : TraceInput) (past : List TraceInput)
    (t : ℤ)
    →
    in_row s.row (open_spans past) ≡ s ∷ [] → NoStop s.key middle → last.change ≡ Stop s.key
    → AllFindRoom past (middle ++ last ∷ []) →
    Count s
    (((last.at -ℤ t) -ℤ paused_time t past (middle ++ last ∷ [])) +ℤ open_from (is_paused past) t)
    (on_row s.row (marks_after past (middle ++ last ∷ [])))
rest-count s [] last past t held none stops room =
    let p = is_paused past in
    let row : List Mark = row_marks s.row p (s ∷ []) last.at last.change in
    let time : ℤ = ((last.at -ℤ t) -ℤ paused_time t past (last ∷ [])) +ℤ open_from p t in
    let here : Count s (open_from p last.at) row =
    subst (λ c. Count s (open_from p last.at) (row_marks s.row p (s ∷ []) last.at c)) (sym stops)
    (last-count s p last.at) in
    let whole : Count s (open_from p last.at +ℤ pos 0) (row ++ []) =
    count-append s (open_from p last.at) (pos 0) row [] here (none-count s) in
    subst (Count s time) (sym (on_row-first s.row past last [] (s ∷ []) held))
    (count-is s (open_from p last.at +ℤ pos 0) time (row ++ []) (the-last p t last.at) whole)
rest-count s (e ∷ middle) last past t held none stops room =
    let p = is_paused past in
    let events : List TraceInput = middle ++ last ∷ [] in
    let row : List Mark = row_marks s.row p (s ∷ []) e.at e.change in
    let apart = apart_from s e.change (open_spans past) held room.0 in
    let held' : in_row s.row (open_after e.change (open_spans past)) ≡ s ∷ [] =
    in_row-open_after s.row e.change (open_spans past) room.0
    ∙ (ap (row_after s.row e.change) held ∙ row_after-kept s e.change none.0 apart) in
    let more : List Mark = on_row s.row (marks_after (e ∷ past) events) in
    let w : ℤ = open_from (pause_after e.change p) e.at in
    let rest : ℤ = ((last.at -ℤ e.at) -ℤ paused_time e.at (e ∷ past) events) +ℤ w in
    let time : ℤ = ((last.at -ℤ t) -ℤ paused_time t past (e ∷ events)) +ℤ open_from p t in
    let ih : Count s rest more =
    rest-count s middle last (e ∷ past) e.at held' none.1 stops room.1 in
    let here : Count s (open_from p e.at -ℤ w) row = inner-count s p e.at e.change none.0 apart in
    subst (Count s time)
    (sym (on_row-first s.row past e (marks_after (e ∷ past) events) (s ∷ []) held))
    (count-is s ((open_from p e.at -ℤ w) +ℤ rest) time (row ++ more)
    (one-more p t e.at last.at w (paused_time e.at (e ∷ past) events))
    (count-append s (open_from p e.at -ℤ w) rest row more here ih))

-- from the start of a span to its end the marks on its row are its own,
-- and their time is its time less its time in pauses
pub span-count : (s : Span) (before : List TraceInput) (first : TraceInput)
    (middle : List TraceInput) (last : TraceInput)
    →
    first.change ≡ Start s → NoStop s.key middle → last.change ≡ Stop s.key
    → AllFindRoom before (first ∷ (middle ++ last ∷ [])) →
    Count s ((last.at -ℤ first.at) -ℤ paused_time first.at (first ∷ before) (middle ++ last ∷ []))
    (on_row s.row (marks_after before (first ∷ (middle ++ last ∷ []))))
span-count s before first middle last starts none stops room =
    let p = is_paused before in
    let events : List TraceInput = middle ++ last ∷ [] in
    let spans = open_spans before in
    let P : Change → Type 0 = λ v. FindsRoom v spans in
    let free : in_row s.row spans ≡ [] = (subst P starts room.0).1 in
    let after : row_after s.row first.change [] ≡ s ∷ [] =
    ap (λ c. row_after s.row c []) starts ∙ ap (λ b. cond b (s ∷ []) []) (row_eq-self s.row) in
    let held : in_row s.row (open_after first.change spans) ≡ s ∷ [] =
    in_row-open_after s.row first.change spans room.0
    ∙ (ap (row_after s.row first.change) free ∙ after) in
    let more : List Mark = on_row s.row (marks_after (first ∷ before) events) in
    let same : pause_after first.change p ≡ p = ap (λ c. pause_after c p) starts in
    let v : ℤ = (last.at -ℤ first.at) -ℤ paused_time first.at (first ∷ before) events in
    let rest : Count s (v +ℤ open_from p first.at) more =
    subst (λ b. Count s (v +ℤ open_from b first.at) more) same
    (rest-count s middle last (first ∷ before) first.at held none stops room.1) in
    let row : List Mark = row_marks s.row p [] first.at first.change in
    let here : Count s (pos 0 -ℤ open_from p first.at) row =
    subst (λ c. Count s (pos 0 -ℤ open_from p first.at) (row_marks s.row p [] first.at c))
    (sym starts) (first-count s p first.at) in
    let whole =
    count-append s (pos 0 -ℤ open_from p first.at) (v +ℤ open_from p first.at) row more here rest in
    let sums : (v w : ℤ) → (pos 0 -ℤ w) +ℤ (v +ℤ w) ≡ v = λ v w. omega (arith, ints) in
    subst (Count s v)
    (sym (on_row-first s.row before first (marks_after (first ∷ before) events) [] free))
    (count-is s ((pos 0 -ℤ open_from p first.at) +ℤ (v +ℤ open_from p first.at)) v (row ++ more)
    (sums v (open_from p first.at)) whole)
