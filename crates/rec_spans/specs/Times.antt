-- What the marks of a span add up to: its time without its pauses.
use Rattle.std.specs.Option.{unwrap_or}
use Rattle.std.specs.Prelude.{◌≡◌, ◌↔◌, ◌<◌, ◌≤◌, ℕ, suc, Bool, true, false}
use Rattle.std.specs.Prelude.{List, [], ◌∷◌, length, map, filter, option_map}
use Rattle.std.specs.Prelude.{slice_get, slice_range, ℤ, pos, ◌+ℤ◌, ◌-ℤ◌, not}
use Rattle.rec_spans.specs.declared.spans.Phase.TheVariants.{Begin, End}
use Rattle.rec_spans.specs.declared.spans.Phase.{Phase}
use Rattle.rec_spans.specs.declared.spans.Span.{Span}
use Rattle.rec_spans.specs.History.{marks_after}
use Rattle.rec_spans.specs.Past.{Mark, TraceInput}
use Rattle.rec_spans.specs.Positions.{Has, IsInPause, IsOnce, IsSpan, past_at}
use Rattle.rec_spans.specs.Turns.{on_row}

-- ---- the time of marks

abbrev pub total : List ℤ → ℤ
total [] = pos 0
total (x ∷ xs) = x +ℤ total xs

abbrev pub is_begin : Phase → Bool
is_begin Begin = true
is_begin End = false

abbrev pub begin_times : List Mark → List ℤ
begin_times ms = map (λ m. m.at) (filter (λ m. is_begin m.phase) ms)

abbrev pub end_times : List Mark → List ℤ
end_times ms = map (λ m. m.at) (filter (λ m. not (is_begin m.phase)) ms)

-- the instants of the ends less those of the begins
abbrev pub marked_time : List Mark → ℤ
marked_time ms = total (end_times ms) -ℤ total (begin_times ms)

-- ---- positions

-- the instant of the event at a position
abbrev pub instant : List TraceInput → ℕ → ℤ
instant history i = unwrap_or (option_map (λ input. input.at) (slice_get history i)) (pos 0)

-- the marks of the events from a to b
abbrev pub marks_between : List TraceInput → ℕ → ℕ → List Mark
marks_between history a b = marks_after (past_at history a) (slice_range history a (suc b))

-- ---- pause windows

-- the positions at which a pause window begins and ends
pub record Window : Type 0 where
  pub from : ℕ
  pub to : ℕ

-- the gaps from w.from to w.to - 1 are a longest stretch of gaps of a span from a to z that are in
-- a pause
pub record IsWindow (history : List TraceInput) (a z : ℕ) (w : Window) : Type 0 where
  pub after_start : a ≤ w.from
  pub some : w.from < w.to
  pub before_end : w.to ≤ z
  pub hidden : (j : ℕ) → w.from ≤ j → j < w.to → IsInPause history (suc j)
  pub shown_before : a < w.from → IsInPause history w.from → ⊥
  pub shown_after : w.to < z → IsInPause history (suc w.to) → ⊥

abbrev pub window_time : List TraceInput → Window → ℤ
window_time history w = instant history w.to -ℤ instant history w.from

-- ---- the law

-- From the start of a span at a to its end at b, the marks on its row are its own, and the ends
-- less the begins are its time less that of its pause windows
pub record AddsUp (history : List TraceInput) (a b : ℕ) (s : Span) : Type 0 where
  pub windows : List Window
  pub each : (w : Window) → Has windows w ↔ IsWindow history a b w
  pub once : IsOnce windows
  pub own : (m : Mark) → Has (on_row s.row (marks_between history a b)) m → m.span ≡ s
  pub adds : marked_time (on_row s.row (marks_between history a b))
      ≡ (instant history b -ℤ instant history a) -ℤ total (map (window_time history) windows)

-- the marks of each span that ends add up, whether instants rise or fall
abbrev pub TimesAddUp : List TraceInput → Type 0
TimesAddUp history =
    (a b : ℕ) (s : Span) → IsSpan history a b s → b < length history → AddsUp history a b s
