-- The run among events, and the attempts in it. Events are found by their places,
-- of which the first is 0.
use Rattle.std.specs.List.{flat_map}
use Rattle.std.specs.Option.{option_map_or, unwrap_or}
use Rattle.std.specs.Prelude.{◌≡◌, ℕ, ◌-◌, ◌<◌, ◌==◌, ℤ, pos, ◌+ℤ◌, ◌*ℤ◌, ◌<ℤ◌, Bool, true}
use Rattle.std.specs.Prelude.{false, List, [], ◌∷◌, length, take, slice_get, option_map}
use Rattle.rec_events.specs.Times.{Moment}
use Rattle.rec_spans.specs.declared.settings.ChromeTraceGroupBy.TheVariants.{Slot}
use Rattle.rec_spans.specs.declared.spans.Span.{Span}
use Rattle.rec_spans.specs.Kinds.{history}
use Rattle.rec_spans.specs.Plain.{PlainEvent}
use Rattle.rec_spans.specs.Positions.{IsSpan}
use Rattle.rec_slots.specs.Acts.Act.{RunStarts, RunEnds, Starts, Ends, Silent}
use Rattle.rec_slots.specs.Acts.{Act, acts}

-- ---- instants

-- the nanoseconds since the beginning of 1970
abbrev pub nanoseconds : Moment → ℤ
nanoseconds s = s.secs *ℤ pos 1000000000 +ℤ pos s.nanos

-- the instant of the event at a place
abbrev pub instant : List PlainEvent → ℕ → ℤ
instant events i =
    unwrap_or (option_map (λ e. nanoseconds e.timestamp) (slice_get events i)) (pos 0)

-- ---- the run

pub data RunMark : Type 0 where
  Begin : RunMark
  End : RunMark

abbrev pub run_mark : Act → List RunMark
run_mark RunStarts = Begin ∷ []
run_mark RunEnds = End ∷ []
run_mark (Starts slot) = []
run_mark (Ends test) = []
run_mark Silent = []

-- the starts and the ends of runs, in order
abbrev pub run_marks : List Act → List RunMark
run_marks xs = flat_map run_mark xs

-- there is one start of a run, and one end after it
abbrev pub IsOneRun : List PlainEvent → Type 0
IsOneRun events = run_marks (acts events) ≡ Begin ∷ End ∷ []

-- a run has started, and there was nothing else of a run
abbrev pub is_begun : List RunMark → Bool
is_begun [] = false
is_begun (Begin ∷ []) = true
is_begun (Begin ∷ m ∷ ms) = false
is_begun (End ∷ ms) = false

-- the run goes on before the event at a place
abbrev pub is_running : List PlainEvent → ℕ → Bool
is_running events i = is_begun (run_marks (take i (acts events)))

-- ---- attempts

abbrev pub is_start : Act → Bool
is_start (Starts slot) = true
is_start RunStarts = false
is_start RunEnds = false
is_start (Ends test) = false
is_start Silent = false

abbrev pub starts_on : ℕ → Act → Bool
starts_on s (Starts slot) = s == slot
starts_on s RunStarts = false
starts_on s RunEnds = false
starts_on s (Ends test) = false
starts_on s Silent = false

-- an attempt starts at a place
abbrev pub StartsAttempt : List PlainEvent → ℕ → Type 0
StartsAttempt events i = option_map_or is_start (slice_get (acts events) i) false ≡ true

-- what starts at a place ends at a later one, and the run goes on at both
pub record IsInside (events : List PlainEvent) (i : ℕ) : Type 0 where
  pub span : Span
  pub end : ℕ
  pub lasts : IsSpan (history Slot events) i end span
  pub ends : end < length (history Slot events)
  pub running : is_running events i ≡ true
  pub still : is_running events end ≡ true

-- the attempt that starts at a place isn't inside the run
abbrev pub IsOutside : List PlainEvent → ℕ → Type 0
IsOutside events i = StartsAttempt events i × ¬ IsInside events i

-- ---- instants that fall

-- the instant of an event of the run is below that of the event before
abbrev pub Falls : List PlainEvent → ℕ → Type 0
Falls events i =
    (is_running events i ≡ true) × (i < length events)
    × (instant events i <ℤ instant events (i - 1))
