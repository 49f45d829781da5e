-- What is drawn in a trace, and the JSON of its events.
use Rattle.std.specs.List.{flat_map}
use Rattle.std.specs.Prelude.{ℕ, ℤ, List, [], ◌∷◌, Option}
use Rattle.serde_json.specs.Data.{Data}
use Rattle.rec_events.specs.declared.instances.OwnedTestInstanceId.{OwnedTestInstanceId}
use Rattle.rec_trace_events.specs.declared.counts.RunningCounts.{RunningCounts}
use Rattle.rec_trace_events.specs.declared.counts.TestCounts.{TestCounts}
use Rattle.rec_trace_events.specs.declared.instants.RunMark.{RunMark}
use Rattle.rec_trace_events.specs.declared.rows.Category.TheVariants as categories
use Rattle.rec_trace_events.specs.declared.rows.Category.{Category}
use Rattle.rec_trace_events.specs.declared.rows.Row.{Row}
use Rattle.rec_trace_events.specs.TraceEvents.{arrow_finish, arrow_start, begin_event}
use Rattle.rec_trace_events.specs.TraceEvents.{concurrency_event, end_event, mark_event}
use Rattle.rec_trace_events.specs.TraceEvents.{process_metadata, results_event}
use Rattle.rec_trace_events.specs.TraceEvents.{slow_event, thread_metadata}
use Rattle.rec_spans.specs.declared.spans.Phase.TheVariants.{Begin, End}
use Rattle.rec_spans.specs.declared.spans.Phase.{Phase}
use Rattle.rec_spans.specs.declared.spans.SpanKey.TheVariants as keys
use Rattle.rec_spans.specs.declared.spans.SpanKey.{SpanKey}
use Rattle.rec_spans.specs.Past.{Mark}

-- the begin or the end of a slice; the name of a process, or of a row; how many tests and setup
-- scripts run; how many tests ended, and how; a mark over the whole run; that something is slow;
-- the start or the finish of the arrow of a test
pub data Drawn : Type 0 where
  Slice : (mark : Mark) (args : Option Data) → Drawn
  ProcessNamed : (pid : ℕ) (name : List ℕ) → Drawn
  RowNamed : (row : Row) (name : List ℕ) → Drawn
  Running : (counts : RunningCounts) (at : ℤ) → Drawn
  Results : (counts : TestCounts) (at : ℤ) → Drawn
  RunMarked : (mark : RunMark) (counts : RunningCounts) (at : ℤ) → Drawn
  Slow : (category : Category) (row : Row) (at : ℤ) (args : Data) → Drawn
  ArrowStarts : (test : OwnedTestInstanceId) (row : Row) (at : ℤ) (flow : ℕ) → Drawn
  ArrowFinishes : (test : OwnedTestInstanceId) (row : Row) (at : ℤ) (flow : ℕ) → Drawn

-- the category of what a span is of
abbrev pub category_of : SpanKey → Category
category_of keys.Run = categories.Run
category_of keys.SubRun = categories.Stress
category_of (keys.Script index) = categories.SetupScript
category_of (keys.Test test) = categories.Test

abbrev pub slice_event : Phase → Mark → Option Data → Data
slice_event Begin m args = begin_event m.span.name (category_of m.span.key) m.span.row m.at args
slice_event End m args = end_event m.span.name (category_of m.span.key) m.span.row m.at args

-- the trace events of what is drawn
abbrev pub events_of : Drawn → List Data
events_of (Slice mark args) = slice_event mark.phase mark args ∷ []
events_of (ProcessNamed pid name) = process_metadata pid name
events_of (RowNamed row name) = thread_metadata row name
events_of (Running counts at) = concurrency_event counts at ∷ []
events_of (Results counts at) = results_event counts at ∷ []
events_of (RunMarked mark counts at) = mark_event mark counts at ∷ []
events_of (Slow category row at args) = slow_event category row at args ∷ []
events_of (ArrowStarts test row at flow) = arrow_start row at flow ∷ []
events_of (ArrowFinishes test row at flow) = arrow_finish row at flow ∷ []

abbrev pub all_events : List Drawn → List Data
all_events drawn = flat_map events_of drawn

-- ---- parts of what is drawn

abbrev pub drawn_mark : Drawn → List Mark
drawn_mark (Slice mark args) = mark ∷ []
drawn_mark _ = []

-- the begins and ends of slices
abbrev pub marks_of : List Drawn → List Mark
marks_of drawn = flat_map drawn_mark drawn
