-- What a trace draws of its events.
use Rattle.std.specs.Prelude.{◌≡◌, List}
use Rattle.semver.specs.Parse.{Parts}
use Rattle.rec_spans.specs.declared.settings.ChromeTraceGroupBy.{ChromeTraceGroupBy}
use Rattle.rec_spans.specs.History.{trace_marks}
use Rattle.rec_spans.specs.Kinds.{history}
use Rattle.rec_spans.specs.Plain.{PlainEvent}
use Rattle.rec_spans.specs.Timeline.{IsTimeline}
use Rattle.rec_trace.specs.Arrows.{ArrowsPair, arrow_ends}
use Rattle.rec_trace.specs.Drawn.{marks_of}
use Rattle.rec_trace.specs.Histories.{trace_drawn}

-- The begins and ends in the trace of these events are their marks, and these are their timeline.
-- Each arrow that finishes has started once before, for the same test
pub record DrawsTimeline (version : Parts) (g : ChromeTraceGroupBy)
    (events : List PlainEvent) : Type 0 where
  pub marks : marks_of (trace_drawn version g events) ≡ trace_marks (history g events)
  pub timeline : IsTimeline (history g events)
  pub arrows : ArrowsPair (arrow_ends (trace_drawn version g events))
