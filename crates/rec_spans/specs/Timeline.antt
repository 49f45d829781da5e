-- What the marks of a history are: slices of time, which take turns on each row.
use Rattle.std.specs.Prelude.{◌≡◌, ◌↔◌, ℕ, ℤ, List, [], slice_get, Some, None}
use Rattle.rec_trace_events.specs.declared.rows.Row.{Row}
use Rattle.rec_spans.specs.declared.spans.Phase.TheVariants.{Begin, End}
use Rattle.rec_spans.specs.declared.spans.Span.{Span}
use Rattle.rec_spans.specs.History.{after, trace_marks}
use Rattle.rec_spans.specs.Past.{TraceInput, event_marks, in_row, is_paused, mark, open_spans}
use Rattle.rec_spans.specs.Positions.{Has, IsOnce, IsSliceOf, Slice}
use Rattle.rec_spans.specs.Positions.{SliceBegins, SliceEnds, past_at}
use Rattle.rec_spans.specs.Turns.{TakeTurns, left_open, on_row}

-- the marks of the event at position i are the begins and the ends of the slices there,
-- at its instant, each once
pub record MarksSlices (history : List TraceInput) (i : ℕ) (input : TraceInput) : Type 0 where
  pub begins : (s : Span) (t : ℤ)
      → Has (event_marks (past_at history i) input) (mark Begin t s)
      ↔ ((t ≡ input.at) × SliceBegins history s i)
  pub ends : (s : Span) (t : ℤ)
      → Has (event_marks (past_at history i) input) (mark End t s)
      ↔ ((t ≡ input.at) × SliceEnds history s i)
  pub once : IsOnce (event_marks (past_at history i) input)

-- On every row begins and ends alternate, each end with the name of its begin, and what is left
-- open is the span that is open there. The marks of each event are those of the slices that the
-- pauses leave of all spans. Two slices of a span that begin at one event are one slice, and so are
-- two that end at one event
pub record IsTimeline (history : List TraceInput) : Type 0 where
  pub turns : (r : Row)
      → TakeTurns None (on_row r (trace_marks history))
      (left_open (is_paused (after [] history)) (in_row r (open_spans (after [] history))))
  pub slices : (i : ℕ) (input : TraceInput) → slice_get history i ≡ Some input
      → MarksSlices history i input
  pub one_begins : (s : Span) (c d : Slice) → IsSliceOf history s c → IsSliceOf history s d
      → c.from ≡ d.from → c ≡ d
  pub one_ends : (s : Span) (c d : Slice) → IsSliceOf history s c → IsSliceOf history s d
      → c.to ≡ d.to → c ≡ d
