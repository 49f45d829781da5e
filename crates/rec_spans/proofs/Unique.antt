-- At most one slice of a span begins at an event, and at most one ends there.
use Rattle.std.proofs.Common.{◌≡◌, ◌≢◌, ◌<◌, ◌≤◌, ◌⊎◌, ℕ, zero, suc, List, []}
use Rattle.std.proofs.Common.{length, Some, refl, sym, ◌∙◌, subst, arith, inl, inr}
use Rattle.std.proofs.lemmas.Bool.{cases_order}
use Rattle.rec_spans.proofs.PlacesOfHistory.{event_at, change_at-is, open-is}
use Rattle.rec_spans.proofs.PlacesOfHistory.{pause-extend, Has-of_key}
use Rattle.rec_spans.proofs.Prefixes.{room-at}
use Rattle.rec_spans.proofs.Rows.{FindsRoom, AllFindRoom}
use Rattle.rec_spans.specs.declared.spans.Span.{Span}
use Rattle.rec_spans.specs.Past.Change.{Start, Stop}
use Rattle.rec_spans.specs.Past.{TraceInput, open_spans}
use Rattle.rec_spans.specs.Positions.IsSlice.{stretch, at_start, at_end}
use Rattle.rec_spans.specs.Positions.{change_at, past_at, Has, IsInPause}
use Rattle.rec_spans.specs.Positions.{IsOpen, IsSpan, IsStretch, IsSlice}

-- a span does not start where it is open
not-open : (history : List TraceInput) (a : ℕ) (s : Span) → AllFindRoom [] history
    → a < length history → change_at history a ≡ Some (Start s) → IsOpen history a s → ⊥
not-open history a s ok lt starts is_open =
    let (e, at) = event_at history a lt in
    let same : e.change ≡ Start s = (let c = change_at-is history a e at in cc) in
    let may : FindsRoom (Start s) (open_spans (past_at history a)) =
    subst (λ c. FindsRoom c (open_spans (past_at history a))) same (room-at history a e ok at) in
    let has : Has (open_spans (past_at history a)) s =
    (open-is history a s (omega arith)).0 is_open in
    subst (λ v. Has v s) may.0 ((Has-of_key s.key s (open_spans (past_at history a))).1 (has, refl))

-- two starts of a span that both reach a place are one
same-start : (history : List TraceInput) (s : Span) (a b i : ℕ) → AllFindRoom [] history
    → i ≤ length history → change_at history a ≡ Some (Start s)
    → change_at history b ≡ Some (Start s) → a ≤ i → b ≤ i → a < length history → b < length history
    →
    ((k : ℕ) → a < k → k < i → change_at history k ≢ Some (Stop s.key))
    → ((k : ℕ) → b < k → k < i → change_at history k ≢ Some (Stop s.key)) → a ≡ b
same-start history s a b i ok le sa sb la lb ha hb none_a none_b =
    elim (cases_order a b) [
      | inl e ↦ e
      | inr w ↦ elim w [
        | inl lt ↦
            absurd (not-open history b s ok hb sb (a, lt, sa, (λ k p q. none_a k p (omega arith))))
        | inr gt ↦
            absurd (not-open history a s ok ha sa (b, gt, sb, (λ k p q. none_b k p (omega arith))))
      ]
    ]

same-end : (history : List TraceInput) (s : Span) (a z y : ℕ) → IsSpan history a z s
    → IsSpan history a y s → z ≡ y
same-end history s a z y p q =
    let wz = p.within in let wy = q.within in
    elim (cases_order z y) [
      | inl e ↦ e
      | inr w ↦ elim w [
        | inl lt ↦ absurd (q.first z p.later lt (p.stops (omega arith)))
        | inr gt ↦ absurd (p.first y q.later gt (q.stops (omega arith)))
      ]
    ]

-- what a slice is, by equations
slice-cases : (history : List TraceInput) (a z x y : ℕ) → IsSlice history a z x y
    → IsStretch history a z x y
    ⊎ (((x ≡ a) × (y ≡ a) × IsInPause history a) ⊎ ((x ≡ z) × (y ≡ z) × IsInPause history z))
slice-cases history a z x y (stretch st) = inl st
slice-cases history a z x y (at_start p) = inr (inl (refl, refl, p))
slice-cases history a z x y (at_end lt p) = inr (inr (refl, refl, p))

-- a stretch does not begin at a start in a pause
no-stretch : (history : List TraceInput) (a z y : ℕ) (s : Span) → IsSpan history a z s
    → IsStretch history a z a y → IsInPause history a → ⊥
no-stretch history a z y s span st p =
    st.shown a (omega arith) st.some
    (pause-extend history a (λ e. (let c = span.starts in cc)) (λ e. (let c = span.starts in cc)) p)

same-stretch_end : (history : List TraceInput) (a z x y v : ℕ) → IsStretch history a z x y
    → IsStretch history a z x v → y ≡ v
same-stretch_end history a z x y v p q =
    let py = p.some in let qv = q.some in let ty = p.to in let tv = q.to in
    elim (cases_order y v) [
      | inl e ↦ e
      | inr w ↦ elim w [
        | inl lt ↦ absurd (q.shown y (omega arith) lt (p.hidden_after (omega arith)))
        | inr gt ↦ absurd (p.shown v (omega arith) gt (q.hidden_after (omega arith)))
      ]
    ]

-- where two slices of one span begin at one event they end at one event
pub same-slice_end : (history : List TraceInput) (s : Span) (a z x y v : ℕ) → IsSpan history a z s
    → IsSlice history a z x y → IsSlice history a z x v → y ≡ v
same-slice_end history s a z x y v span p q =
    elim (slice-cases history a z x y p) [
      | inl st ↦ elim (slice-cases history a z x v q) [
        | inl tt' ↦ same-stretch_end history a z x y v st tt'
        | inr w ↦ elim w [
          | inl r ↦ absurd
              (no-stretch history a z y s span (subst (λ n. IsStretch history a z n y) r.0 st) r.2)
          | inr r ↦ (let some = st.some in let to = st.to in let e = r.0 in absurd (omega arith))
        ]
      ]
      | inr w ↦ elim w [
        | inl r ↦ elim (slice-cases history a z x v q) [
          | inl st ↦ absurd
              (no-stretch history a z v s span (subst (λ n. IsStretch history a z n v) r.0 st) r.2)
          | inr u ↦ elim u [
            | inl m ↦ r.1 ∙ sym m.1
            | inr m ↦ (let later = span.later in let e = r.0 in let f = m.0 in absurd (omega arith))
          ]
        ]
        | inr r ↦ elim (slice-cases history a z x v q) [
          | inl st ↦ (let some = st.some in let to = st.to in let e = r.0 in absurd (omega arith))
          | inr u ↦ elim u [
            | inl m ↦ (let later = span.later in let e = r.0 in let f = m.0 in absurd (omega arith))
            | inr m ↦ r.1 ∙ sym m.1
          ]
        ]
      ]
    ]

reaches : (history : List TraceInput) (a z x y : ℕ) (s : Span) → IsSpan history a z s
    → IsSlice history a z x y → (a ≤ x) × (x ≤ z)
reaches history a z x y s span p =
    elim (slice-cases history a z x y p) [
      | inl st ↦ (let f = st.from in let some = st.some in let to = st.to in (f, omega arith))
      | inr w ↦ elim w [
        | inl r ↦ (let e = r.0 in let later = span.later in (omega arith, omega arith))
        | inr r ↦ (let e = r.0 in let later = span.later in (omega arith, omega arith))
      ]
    ]

-- where each start finds room, one slice of a span begins at an event, at most
pub one-slice : (history : List TraceInput) (s : Span) (a z y b w v i : ℕ) → AllFindRoom [] history
    → IsSpan history a z s → IsSlice history a z i y → IsSpan history b w s
    → IsSlice history b w i v → (a ≡ b) × (z ≡ w) × (y ≡ v)
one-slice history s a z y b w v i ok span p span' q =
    let r = reaches history a z i y s span p in
    let r' = reaches history b w i v s span' q in
    let in1 = span.within in let in2 = span'.within in let l1 = span.later in
    let l2 = span'.later in
    let x : i ≤ z = r.1 in let x' : i ≤ w = r'.1 in
    let starts : a ≡ b = same-start history s a b i ok (omega arith)
    span.starts span'.starts r.0 r'.0 (omega arith) (omega arith)
    (λ k p q. span.first k p (omega arith)) (λ k p q. span'.first k p (omega arith)) in
    let span2 : IsSpan history a w s = subst (λ n. IsSpan history n w s) (sym starts) span' in
    let ends : z ≡ w = same-end history s a z w span span2 in
    let q2 : IsSlice history a z i v = subst (λ n. IsSlice history a n i v) (sym ends)
    (subst (λ n. IsSlice history n w i v) (sym starts) q) in
    (starts, ends, same-slice_end history s a z i y v span p q2)

-- the same for ends
gap-before : (history : List TraceInput) (a z x y v : ℕ) → IsStretch history a z x y → x < v → v ≤ y
    → IsInPause history v → ⊥
gap-before history a z x y zero st lt le p = absurd (omega arith)
gap-before history a z x y (suc v) st lt le p = st.shown v (omega arith) le p

same-stretch_begin : (history : List TraceInput) (a z x v y : ℕ) → IsStretch history a z x y
    → IsStretch history a z v y → x ≡ v
same-stretch_begin history a z x v y p q =
    let fp = p.from in let fq = q.from in let sp = p.some in let sq = q.some in
    elim (cases_order x v) [
      | inl e ↦ e
      | inr w ↦ elim w [
        | inl lt ↦
            absurd (gap-before history a z x y v p lt (omega arith) (q.hidden_before (omega arith)))
        | inr gt ↦
            absurd (gap-before history a z v y x q gt (omega arith) (p.hidden_before (omega arith)))
      ]
    ]

-- where two slices of one span end at one event they begin at one event
pub same-slice_begin : (history : List TraceInput) (s : Span) (a z x v y : ℕ) → IsSpan history a z s
    → IsSlice history a z x y → IsSlice history a z v y → x ≡ v
same-slice_begin history s a z x v y span p q =
    elim (slice-cases history a z x y p) [
      | inl st ↦ elim (slice-cases history a z v y q) [
        | inl other ↦ same-stretch_begin history a z x v y st other
        | inr w ↦ elim w [
          | inl r ↦ (let f = st.from in let some = st.some in let e = r.1 in absurd (omega arith))
          | inr r ↦ absurd (gap-before history a z x y y st st.some (omega arith)
              (subst (IsInPause history) (sym r.1) r.2))
        ]
      ]
      | inr w ↦ elim w [
        | inl r ↦ elim (slice-cases history a z v y q) [
          | inl st ↦ (let f = st.from in let some = st.some in let e = r.1 in absurd (omega arith))
          | inr u ↦ elim u [
            | inl m ↦ r.0 ∙ sym m.0
            | inr m ↦ (let later = span.later in let e = r.1 in let f = m.1 in absurd (omega arith))
          ]
        ]
        | inr r ↦ elim (slice-cases history a z v y q) [
          | inl st ↦ absurd (gap-before history a z v y y st st.some (omega arith)
              (subst (IsInPause history) (sym r.1) r.2))
          | inr u ↦ elim u [
            | inl m ↦ (let later = span.later in let e = r.1 in let f = m.1 in absurd (omega arith))
            | inr m ↦ r.0 ∙ sym m.0
          ]
        ]
      ]
    ]

reaches-end : (history : List TraceInput) (a z x y : ℕ) (s : Span) → IsSpan history a z s
    → IsSlice history a z x y → (a ≤ y) × (y ≤ z)
reaches-end history a z x y s span p =
    elim (slice-cases history a z x y p) [
      | inl st ↦ (let f = st.from in let some = st.some in let to = st.to in (omega arith, to))
      | inr w ↦ elim w [
        | inl r ↦ (let e = r.1 in let later = span.later in (omega arith, omega arith))
        | inr r ↦ (let e = r.1 in let later = span.later in (omega arith, omega arith))
      ]
    ]

-- where each start finds room, one slice of a span ends at an event, at most
pub one-slice_ends : (history : List TraceInput) (s : Span) (a z x b w v i : ℕ)
    → AllFindRoom [] history → IsSpan history a z s → IsSlice history a z x i → IsSpan history b w s
    → IsSlice history b w v i → (a ≡ b) × (z ≡ w) × (x ≡ v)
one-slice_ends history s a z x b w v i ok span p span' q =
    let r = reaches-end history a z x i s span p in
    let r' = reaches-end history b w v i s span' q in
    let in1 = span.within in let in2 = span'.within in let l1 = span.later in
    let l2 = span'.later in
    let to : i ≤ z = r.1 in let to' : i ≤ w = r'.1 in
    let starts : a ≡ b = same-start history s a b i ok (omega arith)
    span.starts span'.starts r.0 r'.0 (omega arith) (omega arith)
    (λ k p q. span.first k p (omega arith)) (λ k p q. span'.first k p (omega arith)) in
    let span2 : IsSpan history a w s = subst (λ n. IsSpan history n w s) (sym starts) span' in
    let ends : z ≡ w = same-end history s a z w span span2 in
    let q2 : IsSlice history a z v i = subst (λ n. IsSlice history a n v i) (sym ends)
    (subst (λ n. IsSlice history n w v i) (sym starts) q) in
    (starts, ends, same-slice_begin history s a z x v i span p q2)
