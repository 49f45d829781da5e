-- In a history that has a trace the marks of each span that ends add up.
use Rattle.std.proofs.Common.{◌≡◌, ◌≢◌, ◌<◌, ◌≤◌, ◌+◌, ◌-◌, ◌↔◌, ℕ, zero, suc, Bool}
use Rattle.std.proofs.Common.{true, false, cond, List, [], ◌∷◌, ◌++◌, map, take, drop}
use Rattle.std.proofs.Common.{length, slice_get, slice_range, Some, None, option_map}
use Rattle.std.proofs.Common.{ℤ, pos, ◌+ℤ◌, ◌-ℤ◌, refl, sym, ◌∙◌, ap, subst, arith}
use Rattle.std.proofs.lemmas.Bool.{false≢true, false_from_ne_true}
use Rattle.std.proofs.lemmas.Int.{ints}
use Rattle.std.proofs.lemmas.List.{take-append-drop}
use Rattle.std.specs.Option.{unwrap_or}
use Rattle.rec_spans.proofs.Acceptance.{history-room}
use Rattle.rec_spans.proofs.PlacesOfHistory.{change_at-is, event_at}
use Rattle.rec_spans.proofs.PlacesOfHistory.{past_at-suc, pause-is, take-place}
use Rattle.rec_spans.proofs.Prefixes.{drop-place, room-append, room-from_place}
use Rattle.rec_spans.proofs.Rows.{AllFindRoom}
use Rattle.rec_spans.proofs.Times.{Count, NoStop, all-has, paused_time, span-count}
use Rattle.rec_spans.proofs.Windows.{IsRun, gaps_time, windows-each}
use Rattle.rec_spans.proofs.Windows.{windows-once, windows-total, windows_from}
use Rattle.rec_spans.specs.declared.settings.ChromeTraceGroupBy.{ChromeTraceGroupBy}
use Rattle.rec_spans.specs.declared.spans.Span.{Span}
use Rattle.rec_spans.specs.declared.spans.SpanKey.{SpanKey}
use Rattle.rec_spans.specs.History.{marks_after}
use Rattle.rec_spans.specs.Kinds.{history}
use Rattle.rec_spans.specs.Past.Change.{Start, Stop}
use Rattle.rec_spans.specs.Past.{TraceInput, is_paused}
use Rattle.rec_spans.specs.Plain.{PlainEvent}
use Rattle.rec_spans.specs.Positions.{IsInPause, IsSpan, change_at, past_at}
use Rattle.rec_spans.specs.Refusals.{events_refusal}
use Rattle.rec_spans.specs.Times.{AddsUp, IsWindow, TimesAddUp, Window, instant}
use Rattle.rec_spans.specs.Times.{marked_time, marks_between, total, window_time}
use Rattle.rec_spans.specs.Turns.{on_row}

-- ---- events at positions

slice_get-drop : (hs : List TraceInput) (i n m : ℕ) → i + n ≡ m
    → slice_get (drop i hs) n ≡ slice_get hs m
slice_get-drop [] i zero m e = go i m
  where
    go : (i m : ℕ) → slice_get (drop i []) 0 ≡ slice_get {X = TraceInput} [] m
    go zero m = refl
    go (suc i) m = refl
slice_get-drop [] zero (suc n) m e = refl
slice_get-drop [] (suc i) (suc n) m e = refl
slice_get-drop (x ∷ hs) zero n m e = ap (slice_get (x ∷ hs)) (omega arith)
slice_get-drop (x ∷ hs) (suc i) n zero e = absurd (omega arith)
slice_get-drop (x ∷ hs) (suc i) n (suc m) e = slice_get-drop hs i n m (omega arith)

no_stop-take : (k : SpanKey) (hs : List TraceInput) (n : ℕ)
    → ((j : ℕ) → j < n → change_at hs j ≢ Some (Stop k)) → NoStop k (take n hs)
no_stop-take k hs zero none = tt
no_stop-take k [] (suc n) none = tt
no_stop-take k (x ∷ hs) (suc n) none = (
  (λ e. none 0 (omega arith) (ap Some e)),
  no_stop-take k hs n (λ j lt. none (suc j) (omega arith)),
)

instant-is : (hs : List TraceInput) (i : ℕ) (e : TraceInput) → slice_get hs i ≡ Some e
    → instant hs i ≡ e.at
instant-is hs i e is = ap (λ o. unwrap_or (option_map (λ x. x.at) o) (pos 0)) is

-- whether the gap before a position is in a pause
abbrev paused_at : List TraceInput → ℕ → Bool
paused_at hs k = is_paused (past_at hs k)

-- the time in pauses is that of the gaps that are in a pause
paused-gaps : (hs : List TraceInput) (d i : ℕ) → i + d < length hs →
    paused_time (instant hs i) (past_at hs (suc i)) (take d (drop (suc i) hs))
    ≡ gaps_time (paused_at hs) (instant hs) i d
paused-gaps hs zero i lt = refl
paused-gaps hs (suc d) i lt =
    let found = event_at hs (suc i) (omega arith) in
    let e = found.0 in
    let is = found.1 in
    let past = past_at hs (suc i) in
    let later : List TraceInput = take d (drop (suc (suc i)) hs) in
    ap (λ v. paused_time (instant hs i) past (take (suc d) v)) (drop-place hs (suc i) e is)
    ∙ (ap (λ t. cond (is_paused past) (t -ℤ instant hs i) (pos 0) +ℤ paused_time t (e ∷ past) later)
    (sym (instant-is hs (suc i) e is))
    ∙ (ap (λ v. cond (is_paused past) (instant hs (suc i) -ℤ instant hs i) (pos 0) +ℤ paused_time
    (instant hs (suc i)) v later) (sym (past_at-suc hs (suc i) e is))
    ∙ ap (λ v. cond (is_paused past) (instant hs (suc i) -ℤ instant hs i) (pos 0) +ℤ v)
    (paused-gaps hs d (suc i) (omega arith))))

-- ---- pause windows

-- a run of gaps that are in a pause is a pause window
window-run : (hs : List TraceInput) (a b : ℕ) (w : Window) → b < length hs
    → IsRun (paused_at hs) a b w ↔ IsWindow hs a b w
window-run hs a b w lt = (
  (λ run.
      let le = run.before_end in
      let some = run.some in
      record {
        after_start = run.after_start;
        some = run.some;
        before_end = run.before_end;
        hidden =
            λ j from to.
            (pause-is hs (suc j) (omega arith)).1 (run.hidden (suc j) (omega arith) (omega arith));
        shown_before =
            λ from paused.
            false≢true (sym (run.shown_before from) ∙ (pause-is hs w.from (omega arith)).0 paused);
        shown_after =
            λ to paused.
            false≢true (sym (run.shown_after to) ∙ (pause-is hs (suc w.to) (omega arith)).0 paused);
      }),
  (λ is.
      let le = is.before_end in
      let some = is.some in
      record {
        after_start = is.after_start;
        some = is.some;
        before_end = is.before_end;
        hidden = λ k from to. each is.hidden k from to (omega arith);
        shown_before =
            λ from. false_from_ne_true (paused_at hs w.from)
            (λ t. is.shown_before from ((pause-is hs w.from (omega arith)).1 t));
        shown_after =
            λ to. false_from_ne_true (paused_at hs (suc w.to))
            (λ t. is.shown_after to ((pause-is hs (suc w.to) (omega arith)).1 t));
      }),
)
  where
    each : ((j : ℕ) → w.from ≤ j → j < w.to → IsInPause hs (suc j)) → (k : ℕ) → w.from < k
        → k ≤ w.to → k ≤ length hs → paused_at hs k ≡ true
    each hidden zero from to within = absurd (omega arith)
    each hidden (suc j) from to within =
        (pause-is hs (suc j) within).0 (hidden j (omega arith) (omega arith))

-- ---- a span that ends

-- from the start of a span to its end, where each start finds room
span-adds : (hs : List TraceInput) (a b : ℕ) (s : Span) → AllFindRoom [] hs → IsSpan hs a b s
    → b < length hs → AddsUp hs a b s
span-adds hs a b s room span within =
    let later = span.later in
    let n : ℕ = b - suc a in
    let at_a = event_at hs a (omega arith) in
    let at_b = event_at hs b within in
    let first = at_a.0 in
    let last = at_b.0 in
    let middle : List TraceInput = take n (drop (suc a) hs) in
    let is_last : slice_get (drop (suc a) hs) n ≡ Some last =
    slice_get-drop hs (suc a) n b (omega arith) ∙ at_b.1 in
    let more : take (suc n) (drop (suc a) hs) ≡ middle ++ last ∷ [] =
    take-place (drop (suc a) hs) n last is_last in
    let width : suc b - a ≡ suc (suc n) = omega arith in
    let whole : slice_range hs a (suc b) ≡ first ∷ (middle ++ last ∷ []) =
    ap (λ v. take v (drop a hs)) width
    ∙ (ap (take (suc (suc n))) (drop-place hs a first at_a.1) ∙ ap (λ v. first ∷ v) more) in
    let starts : first.change ≡ Start s = let c = change_at-is hs a first at_a.1 in
    let d = span.starts in cc in
    let stops : last.change ≡ Stop s.key = let c = change_at-is hs b last at_b.1 in
    let d = span.stops within in cc in
    let none : NoStop s.key middle = no_stop-take s.key (drop (suc a) hs) n
    (λ j lt. subst (λ o. option_map (λ (x : TraceInput). x.change) o ≢ Some (Stop s.key))
    (sym (slice_get-drop hs (suc a) j (suc a + j) refl))
    (span.first (suc a + j) (omega arith) (omega arith))) in
    let part : AllFindRoom (past_at hs a) (slice_range hs a (suc b)) =
    (room-append (past_at hs a) (slice_range hs a (suc b)) (drop (suc b - a) (drop a hs))
    (subst (AllFindRoom (past_at hs a)) (sym (take-append-drop (suc b - a) (drop a hs)))
    (room-from_place hs a room))).0 in
    let count : Count s
    ((last.at -ℤ first.at) -ℤ paused_time first.at (first ∷ past_at hs a) (middle ++ last ∷ []))
    (on_row s.row (marks_after (past_at hs a) (first ∷ (middle ++ last ∷ [])))) =
    span-count s (past_at hs a) first middle last starts none stops
    (subst (AllFindRoom (past_at hs a)) whole part) in
    let ms = on_row s.row (marks_between hs a b) in
    let here : Count s
    ((last.at -ℤ first.at) -ℤ paused_time first.at (first ∷ past_at hs a) (middle ++ last ∷ []))
    ms =
    subst (λ u. Count s ((last.at -ℤ first.at) -ℤ paused_time first.at (first ∷ past_at hs a)
    (middle ++ last ∷ [])) (on_row s.row (marks_after (past_at hs a) u))) (sym whole) count in
    let P : ℤ → ℤ → List TraceInput → List TraceInput → Type 0 =
    λ t u v w. marked_time ms ≡ (u -ℤ t) -ℤ paused_time t v w in
    let timed : P (instant hs a) (instant hs b) (past_at hs (suc a))
    (take (suc n) (drop (suc a) hs)) =
    subst (λ t. P t (instant hs b) (past_at hs (suc a)) (take (suc n) (drop (suc a) hs)))
    (sym (instant-is hs a first at_a.1))
    (subst (λ u. P first.at u (past_at hs (suc a)) (take (suc n) (drop (suc a) hs)))
    (sym (instant-is hs b last at_b.1))
    (subst (λ v. P first.at last.at v (take (suc n) (drop (suc a) hs)))
    (sym (past_at-suc hs a first at_a.1))
    (subst (λ w. P first.at last.at (first ∷ past_at hs a) w) (sym more) here.0))) in
    let windows : List Window = windows_from (paused_at hs) None a (suc n) in
    let gaps = paused-gaps hs (suc n) a (omega arith) in
    let sums = windows-total (paused_at hs) (instant hs) None a (suc n) in
    let begun : (a ≤ a) × (a < a → paused_at hs a ≡ false) =
    (omega arith, (λ lt. absurd (omega arith))) in
    let to : a + suc n ≡ b = omega arith in
    let each = windows-each (paused_at hs) a b None a (suc n) to begun in
    let adds : (m t u p g k : ℤ) → m ≡ (u -ℤ t) -ℤ p → p ≡ g → k ≡ pos 0 +ℤ g → m ≡ (u -ℤ t) -ℤ k =
    λ m t u p g k h i j. omega (arith, ints) in
    record {
      windows = windows;
      each = λ w. (
        (λ h. (window-run hs a b w within).0 ((each w).0 h).0),
        (λ is. (each w).1 ((window-run hs a b w within).1 is, is.after_start)),
      );
      once = windows-once (paused_at hs) a b None a (suc n) to begun;
      own = all-has s ms here.1;
      adds =
          adds (marked_time ms) (instant hs a) (instant hs b)
          (paused_time (instant hs a) (past_at hs (suc a)) (take (suc n) (drop (suc a) hs)))
          (gaps_time (paused_at hs) (instant hs) a (suc n)) (total (map (window_time hs) windows))
          timed gaps sums;
    }

pub times-add_up : (g : ChromeTraceGroupBy) (events : List PlainEvent)
    → events_refusal g events ≡ None → TimesAddUp (history g events)
times-add_up g events ok a b s span within =
    span-adds (history g events) a b s (history-room g events ok) span within
