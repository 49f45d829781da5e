-- The marks of an event are the begins and ends of the slices of all spans there.
use Rattle.std.proofs.Common.{◌≡◌, ◌≢◌, ◌<◌, ◌≤◌, ◌+◌, ◌-◌, ◌⊎◌, ◌↔◌, ℕ, zero, suc}
use Rattle.std.proofs.Common.{Bool, true, false, List, length, slice_get, Option, Some}
use Rattle.std.proofs.Common.{None, ℤ, refl, sym, ◌∙◌, ap, subst, arith, inl, inr}
use Rattle.std.proofs.lemmas.Bool.{false≢true, false_from_ne_true}
use Rattle.rec_spans.proofs.EventMarks.{BeginsIf, EndsIf, begins-in_marks, ends-in_marks}
use Rattle.rec_spans.proofs.Keys.{key_eq-true, key_eq-self}
use Rattle.rec_spans.proofs.PlacesOfHistory.{below_length, change_at-is}
use Rattle.rec_spans.proofs.PlacesOfHistory.{open-is, past_at-suc, pause-is}
use Rattle.rec_spans.specs.declared.spans.Phase.TheVariants.{Begin, End}
use Rattle.rec_spans.specs.declared.spans.Span.{Span}
use Rattle.rec_spans.specs.declared.spans.SpanKey.{SpanKey}
use Rattle.rec_spans.specs.Keys.{key_eq}
use Rattle.rec_spans.specs.Past.Change.{Start, Stop, Pause, Resume, Other}
use Rattle.rec_spans.specs.Past.{Change, TraceInput, event_marks}
use Rattle.rec_spans.specs.Past.{is_paused, mark, open_spans, pause_after}
use Rattle.rec_spans.specs.Positions.IsSlice.{stretch, at_start, at_end}
use Rattle.rec_spans.specs.Positions.{Has, IsInPause, IsOpen, IsSlice, IsSpan, IsStretch}
use Rattle.rec_spans.specs.Positions.{SliceBegins, SliceEnds, change_at, past_at}

-- the first place from i on that passes, or n
first_from : (b : ℕ → Bool) (d i n : ℕ) → i + d ≡ n
    → (z : ℕ) × (i ≤ z) × (z ≤ n) × ((k : ℕ) → i ≤ k → k < z → b k ≡ false) × (z < n → b z ≡ true)
first_from b zero i n e =
    (i, omega arith, omega arith, (λ k p q. absurd (omega arith)), (λ q. absurd (omega arith)))
first_from b (suc d) i n e = go (b i) refl (first_from b d (suc i) n (omega arith))
  where
    go : (v : Bool) → b i ≡ v
        → ((z : ℕ) × (suc i ≤ z) × (z ≤ n) × ((k : ℕ) → suc i ≤ k → k < z → b k ≡ false)
        × (z < n → b z ≡ true))
        →
        (z : ℕ) × (i ≤ z) × (z ≤ n) × ((k : ℕ) → i ≤ k → k < z → b k ≡ false) × (z < n → b z ≡ true)
    go true v more = (i, omega arith, omega arith, (λ k p q. absurd (omega arith)), (λ q. v))
    go false v (z, from, to, none, found) = (
      z,
      omega arith,
      to,
      (λ k p q. let two : (k ≡ i) ⊎ (suc i ≤ k) = grind arith in
          elim two [ inl e ↦ ap b e ∙ v | inr w ↦ none k w q ]),
      found,
    )

-- the last place up to i that passes, or a
last_to : (b : ℕ → Bool) (i a : ℕ) → a ≤ i
    → (x : ℕ) × (a ≤ x) × (x ≤ i) × ((k : ℕ) → x < k → k ≤ i → b k ≡ false) × (a < x → b x ≡ true)
last_to b zero a le =
    (zero, le, omega arith, (λ k p q. absurd (omega arith)), (λ q. absurd (omega arith)))
last_to b (suc i) a le = go (b (suc i)) refl (last_to b i a)
  where
    go : (v : Bool) → b (suc i) ≡ v → (a ≤ i → (x : ℕ) × (a ≤ x) × (x ≤ i)
        × ((k : ℕ) → x < k → k ≤ i → b k ≡ false) × (a < x → b x ≡ true))
        →
        (x : ℕ) × (a ≤ x) × (x ≤ suc i) × ((k : ℕ) → x < k → k ≤ suc i → b k ≡ false)
        × (a < x → b x ≡ true)
    go true v more = (suc i, le, omega arith, (λ k p q. absurd (omega arith)), (λ q. v))
    go false v more = elim at_a [
      | inl e ↦
          (suc i, le, omega arith, (λ k p q. absurd (omega arith)), (λ q. absurd (omega arith)))
      | inr below ↦ (let (x, from, to, none, found) = more below in (
        x,
        from,
        omega arith,
        (λ k p q. let two : (k ≡ suc i) ⊎ (k ≤ i) = grind arith in
            elim two [ inl e ↦ ap b e ∙ v | inr w ↦ none k p w ]),
        found,
      ))
    ]
      where
        at_a : (a ≡ suc i) ⊎ (a ≤ i)
        at_a = grind arith

-- whether it is a stop of the key
is_stop : SpanKey → Option Change → Bool
is_stop k None = false
is_stop k (Some (Start s)) = false
is_stop k (Some (Stop j)) = key_eq j k
is_stop k (Some Pause) = false
is_stop k (Some Resume) = false
is_stop k (Some Other) = false

is_stop-true : (k : SpanKey) (o : Option Change) → is_stop k o ≡ true → o ≡ Some (Stop k)
unfolding is_stop
is_stop-true k None e = cc
is_stop-true k (Some (Start s)) e = cc
is_stop-true k (Some (Stop j)) e = ap (λ v. Some (Stop v)) (key_eq-true j k e)
is_stop-true k (Some Pause) e = cc
is_stop-true k (Some Resume) e = cc
is_stop-true k (Some Other) e = cc

is_stop-false : (k : SpanKey) (o : Option Change) → is_stop k o ≡ false → o ≢ Some (Stop k)
unfolding is_stop
is_stop-false k o e is =
    let w : is_stop k (Some (Stop k)) ≡ false = ap (is_stop k) (sym is) ∙ e in
    let v : key_eq k k ≡ true = key_eq-self k in cc

-- a span that is open from a start up to place i has an end from i on
span-from : (history : List TraceInput) (a i : ℕ) (s : Span) → a < i → i ≤ length history
    → change_at history a ≡ Some (Start s)
    → ((k : ℕ) → a < k → k < i → change_at history k ≢ Some (Stop s.key))
    → (z : ℕ) × (i ≤ z) × IsSpan history a z s
span-from history a i s lt le is none =
    let (z, from, to, none_in, found) = first_from (λ k. is_stop s.key (change_at history k))
    (length history - i) i (length history) (omega arith) in (
      z,
      from,
      record {
        starts = is;
        later = omega arith;
        within = to;
        stops = (λ q. is_stop-true s.key (change_at history z) (found q));
        first = (λ k p q. let two : (k < i) ⊎ (i ≤ k) = grind arith in elim two [
          | inl w ↦ none k p w
          | inr w ↦ is_stop-false s.key (change_at history k) (none_in k w q)
        ]);
      },
    )

-- the flag at a place
flag : List TraceInput → ℕ → Bool
flag history i = is_paused (past_at history i)

flag-suc : (history : List TraceInput) (i : ℕ) (e : TraceInput) → slice_get history i ≡ Some e
    → flag history (suc i) ≡ pause_after e.change (flag history i)
unfolding flag
flag-suc history i e at = ap is_paused (past_at-suc history i e at)

in_pause : (history : List TraceInput) (i : ℕ) → i ≤ length history → flag history i ≡ true
    → IsInPause history i
unfolding flag
in_pause history i le e = (pause-is history i le).1 e

no_pause : (history : List TraceInput) (i : ℕ) → i ≤ length history → flag history i ≡ false
    → IsInPause history i → ⊥
unfolding flag
no_pause history i le e p = let t = (pause-is history i le).0 p in cc

is_flag : (history : List TraceInput) (i : ℕ) → i ≤ length history → IsInPause history i
    → flag history i ≡ true
unfolding flag
is_flag history i le p = (pause-is history i le).0 p

not_flag : (history : List TraceInput) (i : ℕ) → i ≤ length history → (IsInPause history i → ⊥)
    → flag history i ≡ false
unfolding flag
not_flag history i le n =
    false_from_ne_true (is_paused (past_at history i)) (λ t. n ((pause-is history i le).1 t))

-- the longest stretch from a place, and the longest up to one
stretch-from : (history : List TraceInput) (a z i : ℕ) → z ≤ length history → a ≤ i → i < z
    → flag history (suc i) ≡ false → (a < i → IsInPause history i)
    → (y : ℕ) × IsStretch history a z i y
stretch-from history a z i within from lt here before =
    let (y, low, high, none, found) =
    first_from (λ k. flag history (suc k)) (z - suc i) (suc i) z (omega arith) in (
      y,
      record {
        from = from;
        some = low;
        to = high;
        shown = (λ j p q. let two : (j ≡ i) ⊎ (suc i ≤ j) = grind arith in
            elim two [
              | inl e ↦
                  no_pause history (suc j) (omega arith) (ap (λ v. flag history (suc v)) e ∙ here)
              | inr w ↦ no_pause history (suc j) (omega arith) (none j w q)
            ]);
        hidden_before = before;
        hidden_after = (λ q. in_pause history (suc y) (omega arith) (found q));
      },
    )

stretch-to : (history : List TraceInput) (a z i : ℕ) → z ≤ length history → a < suc i → suc i ≤ z
    → flag history (suc i) ≡ false → (suc i < z → IsInPause history (suc (suc i)))
    → (x : ℕ) × IsStretch history a z x (suc i)
stretch-to history a z i within from le here after =
    let (x, low, high, none, found) = last_to (flag history) i a (omega arith) in (
      x,
      record {
        from = low;
        some = omega arith;
        to = le;
        shown = (λ j p q. let two : (j ≡ i) ⊎ (suc j ≤ i) = grind arith in
            elim two [
              | inl e ↦
                  no_pause history (suc j) (omega arith) (ap (λ v. flag history (suc v)) e ∙ here)
              | inr w ↦ no_pause history (suc j) (omega arith) (none (suc j) (omega arith) w)
            ]);
        hidden_before = (λ q. in_pause history x (omega arith) (found q));
        hidden_after = after;
      },
    )

-- what a change does to the flag says which change it is
resumes : (c : Change) (p : Bool) → p ≡ true → pause_after c p ≡ false → c ≡ Resume
resumes (Start s) p e f = absurd (false≢true (sym f ∙ e))
resumes (Stop k) p e f = absurd (false≢true (sym f ∙ e))
resumes Pause p e f = cc
resumes Resume p e f = refl
resumes Other p e f = absurd (false≢true (sym f ∙ e))

pauses : (c : Change) (p : Bool) → p ≡ false → pause_after c p ≡ true → c ≡ Pause
pauses (Start s) p e f = absurd (false≢true (sym e ∙ f))
pauses (Stop k) p e f = absurd (false≢true (sym e ∙ f))
pauses Pause p e f = refl
pauses Resume p e f = cc
pauses Other p e f = absurd (false≢true (sym e ∙ f))

-- two changes at one place
one_change : (history : List TraceInput) (i : ℕ) (c d : Change) → change_at history i ≡ Some c
    → change_at history i ≡ Some d → c ≡ d
one_change history i c d p q = cc

-- the span is open where it goes on
open-inside : (history : List TraceInput) (a z i : ℕ) (s : Span) → IsSpan history a z s → a < i
    → i ≤ z → IsOpen history i s
open-inside history a z i s span lt le =
    (a, lt, span.starts, (λ k p q. span.first k p (omega arith)))

has-inside : (history : List TraceInput) (a z i : ℕ) (s : Span) → IsSpan history a z s → a < i
    → i ≤ z → Has (open_spans (past_at history i)) s
has-inside history a z i s span lt le =
    (open-is history i s (let w = span.within in omega arith)).0
    (open-inside history a z i s span lt le)

begins-start : (c : Change) (p : Bool) (spans : List Span) (s : Span) → c ≡ Start s
    → BeginsIf p c spans s
begins-start c p spans s e = subst (λ v. BeginsIf p v spans s) (sym e) refl

begins-stop : (c : Change) (p : Bool) (spans : List Span) (s : Span) → c ≡ Stop s.key → p ≡ true
    → Has spans s → BeginsIf p c spans s
begins-stop c p spans s e t has = subst (λ v. BeginsIf p v spans s) (sym e) (t, has, refl)

begins-resume : (c : Change) (p : Bool) (spans : List Span) (s : Span) → c ≡ Resume → p ≡ true
    → Has spans s → BeginsIf p c spans s
begins-resume c p spans s e t has = subst (λ v. BeginsIf p v spans s) (sym e) (t, has)

ends-start : (c : Change) (p : Bool) (spans : List Span) (s : Span) → c ≡ Start s → p ≡ true
    → EndsIf p c spans s
ends-start c p spans s e t = subst (λ v. EndsIf p v spans s) (sym e) (t, refl)

ends-stop : (c : Change) (p : Bool) (spans : List Span) (s : Span) → c ≡ Stop s.key → Has spans s
    → EndsIf p c spans s
ends-stop c p spans s e has = subst (λ v. EndsIf p v spans s) (sym e) (has, refl)

ends-pause : (c : Change) (p : Bool) (spans : List Span) (s : Span) → c ≡ Pause → p ≡ false
    → Has spans s → EndsIf p c spans s
ends-pause c p spans s e t has = subst (λ v. EndsIf p v spans s) (sym e) (t, has)

-- a slice that begins at an event has its begin among the event's marks
slice-begins : (history : List TraceInput) (a z : ℕ) (s : Span) → IsSpan history a z s
    → (e : TraceInput) (i y : ℕ) → IsSlice history a z i y → i < length history
    → slice_get history i ≡ Some e →
    BeginsIf (is_paused (past_at history i)) e.change (open_spans (past_at history i)) s
unfolding flag
slice-begins history a z s span e i y (stretch st) lt at =
    elim two [ inl same ↦ first same | inr later ↦ middle later ]
  where
    two : (a ≡ i) ⊎ (a < i)
    two = let f = st.from in grind arith

    first : a ≡ i
        → BeginsIf (is_paused (past_at history i)) e.change (open_spans (past_at history i)) s
    first same =
        begins-start e.change (is_paused (past_at history i)) (open_spans (past_at history i)) s
        (one_change history i e.change (Start s) (change_at-is history i e at)
        (subst (λ v. change_at history v ≡ Some (Start s)) same span.starts))

    middle : a < i
        → BeginsIf (is_paused (past_at history i)) e.change (open_spans (past_at history i)) s
    middle later =
        let paused : flag history i ≡ true =
        is_flag history i (omega arith) (st.hidden_before later) in
        let after : pause_after e.change (flag history i) ≡ false = sym (flag-suc history i e at)
        ∙ not_flag history (suc i) lt (st.shown i (omega arith) st.some) in
        begins-resume e.change (is_paused (past_at history i)) (open_spans (past_at history i)) s
        (resumes e.change (flag history i) paused after) paused
        (has-inside history a z i s span later (let u = st.some in let v = st.to in omega arith))
slice-begins history a z s span e i y (at_start p) lt at =
    begins-start e.change (is_paused (past_at history a)) (open_spans (past_at history a)) s
    (one_change history a e.change (Start s) (change_at-is history a e at) span.starts)
slice-begins history a z s span e i y (at_end q p) lt at =
    begins-stop e.change (is_paused (past_at history z)) (open_spans (past_at history z)) s
    (one_change history z e.change (Stop s.key) (change_at-is history z e at) (span.stops q))
    ((pause-is history z (omega arith)).0 p)
    (has-inside history a z z s span span.later (omega arith))

-- a slice that ends at an event has its end among the event's marks
slice-ends : (history : List TraceInput) (a z : ℕ) (s : Span) → IsSpan history a z s
    → (e : TraceInput) (x i : ℕ) → IsSlice history a z x i → i < length history
    → slice_get history i ≡ Some e →
    EndsIf (is_paused (past_at history i)) e.change (open_spans (past_at history i)) s
unfolding flag
slice-ends history a z s span e x zero (stretch st) lt at = let u = st.some in absurd (omega arith)
slice-ends history a z s span e x (suc i) (stretch st) lt at =
    elim two [ inl same ↦ last same | inr later ↦ middle later ]
  where
    two : (suc i ≡ z) ⊎ (suc i < z)
    two = let f = st.to in grind arith

    held : Has (open_spans (past_at history (suc i))) s
    held =
        let u = st.some in let v = st.from in
        has-inside history a z (suc i) s span (omega arith) st.to

    last : suc i ≡ z
        → EndsIf (is_paused (past_at history (suc i))) e.change
        (open_spans (past_at history (suc i))) s
    last same =
        ends-stop e.change (is_paused (past_at history (suc i)))
        (open_spans (past_at history (suc i))) s
        (one_change history (suc i) e.change (Stop s.key) (change_at-is history (suc i) e at) (subst
        (λ v. change_at history v ≡ Some (Stop s.key)) (sym same) (span.stops (omega arith))))
        held

    middle : suc i < z
        → EndsIf (is_paused (past_at history (suc i))) e.change
        (open_spans (past_at history (suc i))) s
    middle later =
        let free : flag history (suc i) ≡ false = not_flag history (suc i) (omega arith)
        (let u = st.some in st.shown i (omega arith) (omega arith)) in
        let after : pause_after e.change (flag history (suc i)) ≡ true =
        sym (flag-suc history (suc i) e at)
        ∙ is_flag history (suc (suc i)) lt (st.hidden_after later) in
        ends-pause e.change (is_paused (past_at history (suc i)))
        (open_spans (past_at history (suc i))) s (pauses e.change (flag history (suc i)) free after)
        free held
slice-ends history a z s span e x i (at_start p) lt at =
    ends-start e.change (is_paused (past_at history a)) (open_spans (past_at history a)) s
    (one_change history a e.change (Start s) (change_at-is history a e at) span.starts)
    ((pause-is history a (omega arith)).0 p)
slice-ends history a z s span e x i (at_end q p) lt at =
    ends-stop e.change (is_paused (past_at history z)) (open_spans (past_at history z)) s
    (one_change history z e.change (Stop s.key) (change_at-is history z e at) (span.stops q))
    (has-inside history a z z s span span.later (omega arith))

-- a slice of a span that begins at an event, and one that ends there
slice-from : (history : List TraceInput) (s : Span) (a z i y : ℕ) → IsSpan history a z s
    → IsSlice history a z i y → SliceBegins history s i
slice-from history s a z i y span slice =
    (record { start = a; stop = z; from = i; to = y }, (span, slice), refl)

slice-to : (history : List TraceInput) (s : Span) (a z x i : ℕ) → IsSpan history a z s
    → IsSlice history a z x i → SliceEnds history s i
slice-to history s a z x i span slice =
    (record { start = a; stop = z; from = x; to = i }, (span, slice), refl)

-- a slice of a span with a stretch from its first event on, and one with a stretch up to its last
begins-stretch : (history : List TraceInput) (a z i : ℕ) (s : Span) → IsSpan history a z s
    → ((y : ℕ) × IsStretch history a z i y) → SliceBegins history s i
begins-stretch history a z i s span (y, st) = slice-from history s a z i y span (stretch st)

ends-stretch : (history : List TraceInput) (a z i : ℕ) (s : Span) → IsSpan history a z s
    → ((x : ℕ) × IsStretch history a z x i) → SliceEnds history s i
ends-stretch history a z i s span (x, st) = slice-to history s a z x i span (stretch st)

-- a begin among the marks of an event begins a slice
begun-slice : (history : List TraceInput) (i : ℕ) (e : TraceInput) (s : Span) → i < length history
    → slice_get history i ≡ Some e → (c : Change) → e.change ≡ c →
    BeginsIf (is_paused (past_at history i)) c (open_spans (past_at history i)) s
    → SliceBegins history s i
unfolding flag
begun-slice history i e s lt at (Start x) is shows =
    let starts : change_at history i ≡ Some (Start s) =
    change_at-is history i e at ∙ (ap Some is ∙ ap (λ v. Some (Start v)) shows) in
    let (z, from, span) =
    span-from history i (suc i) s (omega arith) lt starts (λ k p q. absurd (omega arith)) in
    let same : flag history (suc i) ≡ flag history i =
    flag-suc history i e at ∙ ap (λ v. pause_after v (flag history i)) is in
    go z from span same (flag history i) refl
  where
    go : (z : ℕ) → suc i ≤ z → IsSpan history i z s → flag history (suc i) ≡ flag history i
        → (b : Bool) → flag history i ≡ b → SliceBegins history s i
    go z from span same true t =
        slice-from history s i z i i span (at_start (in_pause history i (omega arith) t))
    go z from span same false t =
        begins-stretch history i z i s span (stretch-from history i z i span.within (omega arith)
        from (same ∙ t) (λ q. absurd (omega arith)))
begun-slice history i e s lt at (Stop k) is (paused, has, key) =
    let (a, low, starts, none) = (open-is history i s (omega arith)).1 has in
    let stops : change_at history i ≡ Some (Stop s.key) =
    change_at-is history i e at ∙ (ap Some is ∙ ap (λ v. Some (Stop v)) (sym key)) in
    let span : IsSpan history a i s = record {
      starts = starts;
      later = low;
      within = omega arith;
      stops = (λ q. stops);
      first = none;
    } in
    slice-from history s a i i i span (at_end lt (in_pause history i (omega arith) paused))
begun-slice history i e s lt at Resume is (paused, has) =
    let (a, low, starts, none) = (open-is history i s (omega arith)).1 has in
    let (z, from, span) = span-from history a i s low (omega arith) starts none in
    let here : change_at history i ≡ Some Resume = change_at-is history i e at ∙ ap Some is in
    let two : (i ≡ z) ⊎ (i < z) = grind arith in
    let after : flag history (suc i) ≡ false =
    flag-suc history i e at ∙ ap (λ v. pause_after v (flag history i)) is in
    elim two [
      | inl same ↦ (let stop : change_at history i ≡ Some (Stop s.key) = subst
          (λ v. change_at history v ≡ Some (Stop s.key)) (sym same) (span.stops (omega arith)) in
          cc)
      | inr later ↦ begins-stretch history a z i s span (stretch-from history a z i span.within
          (omega arith) later after (λ q. in_pause history i (omega arith) paused))
    ]
begun-slice history i e s lt at Pause is shows = absurd shows
begun-slice history i e s lt at Other is shows = absurd shows

-- an end among the marks of an event ends a slice
ended-slice : (history : List TraceInput) (i : ℕ) (e : TraceInput) (s : Span) → i < length history
    → slice_get history i ≡ Some e → (c : Change) → e.change ≡ c →
    EndsIf (is_paused (past_at history i)) c (open_spans (past_at history i)) s
    → SliceEnds history s i
unfolding flag
ended-slice history i e s lt at (Start x) is (paused, shows) =
    let starts : change_at history i ≡ Some (Start s) =
    change_at-is history i e at ∙ (ap Some is ∙ ap (λ v. Some (Start v)) shows) in
    let (z, from, span) =
    span-from history i (suc i) s (omega arith) lt starts (λ k p q. absurd (omega arith)) in
    slice-to history s i z i i span (at_start (in_pause history i (omega arith) paused))
ended-slice history i e s lt at (Stop k) is (has, key) =
    let (a, low, starts, none) = (open-is history i s (omega arith)).1 has in
    let stops : change_at history i ≡ Some (Stop s.key) =
    change_at-is history i e at ∙ (ap Some is ∙ ap (λ v. Some (Stop v)) (sym key)) in
    let span : IsSpan history a i s = record {
      starts = starts;
      later = low;
      within = omega arith;
      stops = (λ q. stops);
      first = none;
    } in
    go a i low lt span (flag history i) refl
  where
    go : (a j : ℕ) → a < j → j < length history → IsSpan history a j s → (b : Bool)
        → flag history j ≡ b → SliceEnds history s j
    go a j low lt span true t =
        slice-to history s a j j j span (at_end lt (in_pause history j (omega arith) t))
    go a zero low lt span false t = absurd (omega arith)
    go a (suc j) low lt span false t =
        ends-stretch history a (suc j) (suc j) s span (stretch-to history a (suc j) j (omega arith)
        low (omega arith) t (λ q. absurd (omega arith)))
ended-slice history zero e s lt at Pause is (free, has) = absurd has
ended-slice history (suc i) e s lt at Pause is (free, has) =
    let (a, low, starts, none) = (open-is history (suc i) s (omega arith)).1 has in
    let (z, from, span) = span-from history a (suc i) s low (omega arith) starts none in
    let after : flag history (suc (suc i)) ≡ true =
    flag-suc history (suc i) e at ∙ ap (λ v. pause_after v (flag history (suc i))) is in
    ends-stretch history a z (suc i) s span (stretch-to history a z i span.within low from free
    (λ q. in_pause history (suc (suc i)) lt after))
ended-slice history i e s lt at Resume is shows = absurd shows
ended-slice history i e s lt at Other is shows = absurd shows

-- the begins among the marks of an event are those of the slices of all spans that begin there,
-- at its instant
pub begins-are_slices : (history : List TraceInput) (i : ℕ) (e : TraceInput)
    → slice_get history i ≡ Some e → (s : Span) (t : ℤ) →
    Has (event_marks (past_at history i) e) (mark Begin t s)
    ↔ ((t ≡ e.at) × SliceBegins history s i)
begins-are_slices history i e at s t =
    let lt = below_length history i e at in
    let f = begins-in_marks (is_paused (past_at history i)) e.change
    (open_spans (past_at history i)) e.at t s in (
      (λ w. ((f.0 w).0, begun-slice history i e s lt at e.change refl (f.0 w).1)),
      (λ (same, (c, of_span, from)). f.1 (
        same,
        slice-begins history c.start c.stop s of_span.0 e i c.to
            (subst (λ x. IsSlice history c.start c.stop x c.to) from of_span.1) lt at,
      )),
    )

-- the ends among the marks of an event are those of the slices of all spans that end there,
-- at its instant
pub ends-are_slices : (history : List TraceInput) (i : ℕ) (e : TraceInput)
    → slice_get history i ≡ Some e → (s : Span) (t : ℤ) →
    Has (event_marks (past_at history i) e) (mark End t s) ↔ ((t ≡ e.at) × SliceEnds history s i)
ends-are_slices history i e at s t =
    let lt = below_length history i e at in
    let f = ends-in_marks (is_paused (past_at history i)) e.change (open_spans (past_at history i))
    e.at t s in (
      (λ w. ((f.0 w).0, ended-slice history i e s lt at e.change refl (f.0 w).1)),
      (λ (same, (c, of_span, to)). f.1 (
        same,
        slice-ends history c.start c.stop s of_span.0 e c.from i
            (subst (λ y. IsSlice history c.start c.stop c.from y) to of_span.1) lt at,
      )),
    )
