-- What a viewer reads in the printed text of a trace.
use Rattle.std.specs.Prelude.{◌≡◌, ℕ, List, [], ◌++◌, map, Option, None, Some}
use Rattle.semver.specs.Parse.{Parts}
use Rattle.serde_json.specs.Data.{Data}
use Rattle.rec_trace_events.specs.declared.rows.Row.{Row}
use Rattle.rec_trace_events.specs.ReadEvents.{event_read, events_read, slices_read}
use Rattle.rec_spans.specs.declared.settings.ChromeTraceGroupBy.{ChromeTraceGroupBy}
use Rattle.rec_spans.specs.History.{after, trace_marks}
use Rattle.rec_spans.specs.Kinds.{history}
use Rattle.rec_spans.specs.Past.{in_row, is_paused, open_spans}
use Rattle.rec_spans.specs.Plain.{PlainEvent}
use Rattle.rec_spans.specs.Turns.{left_open}
use Rattle.rec_trace.specs.Drawn.{all_events}
use Rattle.rec_trace.specs.Histories.{trace_drawn}
use Rattle.rec_trace.specs.ReadArrows.{ReadArrowsPair, ends_read}
use Rattle.rec_trace.specs.ReadDrawn.{read_mark}
use Rattle.rec_trace.specs.ReadGroupings.{all_ungrouped_read}
use Rattle.rec_trace.specs.ReadPlaces.{ArrowsAtSlices}
use Rattle.rec_trace.specs.ReadTexts.{events_in}
use Rattle.rec_trace.specs.ReadTurns.{ReadInTurns, read_on_row}

-- what is left open on a row after these events: the name of the span that is open there
abbrev pub open_on_row : ChromeTraceGroupBy → List PlainEvent → Row → Option (List ℕ)
open_on_row g events row =
    left_open (is_paused (after [] (history g events)))
    (in_row row (open_spans (after [] (history g events))))

-- What a viewer reads in this text of the trace of these events. It looks at the phase, the name,
-- the category, the row, the instant and the number of a trace event, and each one has all but the
-- number. The begins and ends of slices are the marks of the timeline, and no other event is read
-- as one. On each row they take turns, and each end has the name of its begin. The starts and
-- finishes of arrows pair by their numbers. Each start stands where and when a slice ended before
-- it, each finish where and when one began before it, and both slices name one test in their args.
-- Each prefix of the events shows the first of what is read, and either grouping shows the same but
-- for the metadata, the processes of tests and the names of their slices
pub record PrintsTimeline (version : Parts) (g : ChromeTraceGroupBy) (events : List PlainEvent)
    (text : List ℕ) : Type 0 where
  pub items : List Data
  pub parsed : events_in text ≡ Some items
  pub drawn : items ≡ all_events (trace_drawn version g events)
  pub readable : map event_read items ≡ map Some (events_read items)
  pub slices : slices_read items ≡ map read_mark (trace_marks (history g events))
  pub turns : (row : Row)
      → ReadInTurns None (read_on_row row (slices_read items)) (open_on_row g events row)
  pub arrows : ReadArrowsPair (ends_read items)
  pub arrows_at_slices : (test : ℕ → List ℕ × List ℕ) × ArrowsAtSlices test [] items
  pub prefixes : (xs ys : List PlainEvent) → events ≡ xs ++ ys
      → (more : List Data) × (items ≡ all_events (trace_drawn version g xs) ++ more)
  pub groupings : (k : ChromeTraceGroupBy)
      → all_ungrouped_read (events_read items)
      ≡ all_ungrouped_read (events_read (all_events (trace_drawn version k events)))
