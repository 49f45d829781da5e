-- The same by positions in a history, of which the first event has the position 0.
use Rattle.std.specs.Prelude.{◌≡◌, ◌≢◌, ◌<◌, ◌≤◌, ◌⊎◌, ℕ, suc, List, [], ◌∷◌, length}
use Rattle.std.specs.Prelude.{reverse, take, slice_get, Option, Some, option_map}
use Rattle.rec_spans.specs.declared.spans.Span.{Span}
use Rattle.rec_spans.specs.Past.Change.{Start, Stop, Pause, Resume}
use Rattle.rec_spans.specs.Past.{Change, TraceInput}

-- what the event at a position does, if there is one
abbrev pub change_at : List TraceInput → ℕ → Option Change
change_at history i = option_map (λ input. input.change) (slice_get history i)

-- the events before a position, the newest first
abbrev pub past_at : List TraceInput → ℕ → List TraceInput
past_at history i = reverse (take i history)

-- x is one of these
abbrev pub Has : {X : Type 0} → List X → X → Type 0
Has [] x = ⊥
Has (y ∷ ys) x = (y ≡ x) ⊎ Has ys x

-- no element stands twice
abbrev pub IsOnce : {X : Type 0} → List X → Type 0
IsOnce [] = Unit {0}
IsOnce (x ∷ xs) = (Has xs x → ⊥) × IsOnce xs

-- the last event before position i that is a pause or a continuation is a pause
abbrev pub IsInPause : List TraceInput → ℕ → Type 0
IsInPause history i =
    (j : ℕ) × (j < i) × (change_at history j ≡ Some Pause)
    × ((k : ℕ) → j < k → k < i
    → (change_at history k ≢ Some Pause) × (change_at history k ≢ Some Resume))

-- some start of the span before position i has no stop of its key between it and i
abbrev pub IsOpen : List TraceInput → ℕ → Span → Type 0
IsOpen history i s =
    (a : ℕ) × (a < i) × (change_at history a ≡ Some (Start s))
    × ((k : ℕ) → a < k → k < i → change_at history k ≢ Some (Stop s.key))

-- a span from its start at position a to its end at z, the first stop of its key after a; where
-- there is none, z is the number of events
pub record IsSpan (history : List TraceInput) (a z : ℕ) (s : Span) : Type 0 where
  pub starts : change_at history a ≡ Some (Start s)
  pub later : a < z
  pub within : z ≤ length history
  pub stops : z < length history → change_at history z ≡ Some (Stop s.key)
  pub first : (k : ℕ) → a < k → k < z → change_at history k ≢ Some (Stop s.key)

-- gap j lies between the events at j and j + 1. It is shown where the run is in no pause there
abbrev pub IsShown : List TraceInput → ℕ → Type 0
IsShown history j = IsInPause history (suc j) → ⊥

-- the gaps from x to y - 1 are a longest stretch of shown gaps of a span from a to z
pub record IsStretch (history : List TraceInput) (a z x y : ℕ) : Type 0 where
  pub from : a ≤ x
  pub some : x < y
  pub to : y ≤ z
  pub shown : (j : ℕ) → x ≤ j → j < y → IsShown history j
  pub hidden_before : a < x → IsInPause history x
  pub hidden_after : y < z → IsInPause history (suc y)

-- a slice of a span from a to z: a stretch, or an instant at a start or an end in a pause
pub data IsSlice (history : List TraceInput) (a z : ℕ) : ℕ → ℕ → Type 0 where
  stretch : {x y : ℕ} → IsStretch history a z x y → IsSlice history a z x y
  at_start : IsInPause history a → IsSlice history a z a a
  at_end : z < length history → IsInPause history z → IsSlice history a z z z

-- the positions of a slice: those of its span, from start to stop, and its own
pub record Slice : Type 0 where
  pub start : ℕ
  pub stop : ℕ
  pub from : ℕ
  pub to : ℕ

-- a slice of a span stands at these positions
abbrev pub IsSliceOf : List TraceInput → Span → Slice → Type 0
IsSliceOf history s c = IsSpan history c.start c.stop s × IsSlice history c.start c.stop c.from c.to

-- a slice of the span begins, or ends, at the event at position i
abbrev pub SliceBegins : List TraceInput → Span → ℕ → Type 0
SliceBegins history s i = (c : Slice) × IsSliceOf history s c × (c.from ≡ i)

abbrev pub SliceEnds : List TraceInput → Span → ℕ → Type 0
SliceEnds history s i = (c : Slice) × IsSliceOf history s c × (c.to ≡ i)
