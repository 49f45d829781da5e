-- The starts and finishes of arrows, as they are read.
use Rattle.std.specs.Prelude.{◌≡◌, ℕ, Bool, ◌||◌, List, ◌∷◌, ◌++◌}
use Rattle.std.specs.Prelude.{Option, Some, bytes_eq, codes, filter, map}
use Rattle.serde_json.specs.Data.{Data}
use Rattle.rec_trace_events.specs.ReadEvents.{ReadEvent, events_read}
use Rattle.rec_spans.specs.Positions.{Has}
use Rattle.rec_trace.specs.Arrows.ArrowEnd.{Starts, Finishes}
use Rattle.rec_trace.specs.Arrows.{ArrowEnd}

-- the phase and the number of a start or a finish
pub record ReadEnd : Type 0 where
  pub phase : List ℕ
  pub id : Option ℕ

abbrev pub starting : ℕ → ReadEnd
starting flow = record { phase = codes "s"; id = Some flow }

abbrev pub finishing : ℕ → ReadEnd
finishing flow = record { phase = codes "f"; id = Some flow }

-- whether an event is the start or the finish of an arrow
abbrev pub is_arrow : ReadEvent → Bool
is_arrow e = bytes_eq e.phase (codes "s") || bytes_eq e.phase (codes "f")

-- the starts and finishes among these events
abbrev pub arrows_read : List Data → List ReadEvent
arrows_read ds = filter is_arrow (events_read ds)

abbrev pub ends_read : List Data → List ReadEnd
ends_read ds = map (λ e. record { phase = e.phase; id = e.id }) (arrows_read ds)

-- the start or the finish of an arrow as it is read: its test is not
abbrev pub read_end : ArrowEnd → ReadEnd
read_end (Starts test flow) = starting flow
read_end (Finishes test flow) = finishing flow

-- Each has a number. Each number starts at most once. Each finish has a start of its number before
-- it, and no finish of its number before it
pub record ReadArrowsPair (ends : List ReadEnd) : Type 0 where
  pub numbered : (e : ReadEnd) → Has ends e → (flow : ℕ) × (e.id ≡ Some flow)
  pub starts_once : (before after : List ReadEnd) (flow : ℕ)
      → ends ≡ before ++ starting flow ∷ after → Has before (starting flow) → ⊥
  pub has_start : (before after : List ReadEnd) (flow : ℕ) → ends ≡ before ++ finishing flow ∷ after
      → Has before (starting flow)
  pub finishes_once : (before after : List ReadEnd) (flow : ℕ)
      → ends ≡ before ++ finishing flow ∷ after → Has before (finishing flow) → ⊥
