-- What becomes of the recorded events that an iterator gives: the text of their trace,
-- or why there is none.
use Rattle.std.specs.Iterator.{Drains, Yields, YieldsThen}
use Rattle.std.specs.Prelude.{◌≡◌, ◌⊎◌, ⊤, ℕ, List, [], ◌∷◌, ◌++◌, map}
use Rattle.std.specs.Prelude.{Option, Some, None, Result, Ok, Err}
use Rattle.semver.specs.Parse.{Parts}
use Rattle.rec_codec.specs.declared.line_events.LineError.TheVariants as faults
use Rattle.rec_codec.specs.declared.line_events.LineError.{LineError}
use Rattle.rec_codec.specs.Event.{RecordedEvent}
use Rattle.rec_spans.specs.declared.errors.ChromeTraceError.TheVariants.{OutOfMemory, ReadError}
use Rattle.rec_spans.specs.declared.errors.ChromeTraceError.{ChromeTraceError}
use Rattle.rec_spans.specs.declared.settings.ChromeTraceGroupBy.TheVariants.{Binary, Slot}
use Rattle.rec_spans.specs.declared.settings.ChromeTraceGroupBy.{ChromeTraceGroupBy}
use Rattle.rec_spans.specs.Faults.{fault_error}
use Rattle.rec_spans.specs.Groupings.{GroupingsAgree}
use Rattle.rec_spans.specs.History.{after, next_marks, state_after, trace_marks}
use Rattle.rec_spans.specs.Kinds.{history, next_input}
use Rattle.rec_spans.specs.Plain.{PlainEvent, plain}
use Rattle.rec_spans.specs.Positions.{IsOnce}
use Rattle.rec_spans.specs.Refusals.{events_refusal}
use Rattle.rec_spans.specs.Timeline.{IsTimeline}
use Rattle.rec_spans.specs.Times.{TimesAddUp}
use Rattle.rec_trace.specs.Arrows.{ArrowsPair, arrow_ends}
use Rattle.rec_trace.specs.declared.printed_trace.PrintedTrace.{PrintedTrace}
use Rattle.rec_trace.specs.declared.settings.ChromeTraceMessageFormat.{ChromeTraceMessageFormat}
use Rattle.rec_trace.specs.Drawn.{Drawn, marks_of}
use Rattle.rec_trace.specs.Groupings.{all_ungrouped}
use Rattle.rec_trace.specs.Histories.{known_of, trace_drawn}
use Rattle.rec_trace.specs.Naming.{all_named}
use Rattle.rec_trace.specs.Places.{IsKnownByPlaces}
use Rattle.rec_trace.specs.PrintedTimeline.{PrintsTimeline}
use Rattle.rec_trace.specs.Table.{drawn}
use Rattle.rec_trace.specs.Traces.{HasTraced, Traces, trace_text}

-- each prefix of these events has a trace, and draws the first of what they draw
abbrev pub KeepsDrawn : Parts → ChromeTraceGroupBy → List PlainEvent → Type 0
KeepsDrawn version g events = (xs ys : List PlainEvent) → events ≡ xs ++ ys →
    (events_refusal g xs ≡ None)
    × ((more : List Drawn) × (trace_drawn version g events ≡ trace_drawn version g xs ++ more))

-- event by event, what is drawn has the marks of its spans
abbrev pub MarksOfEach : Parts → ChromeTraceGroupBy → List PlainEvent → Type 0
MarksOfEach version g events =
    (before : List PlainEvent) (event : PlainEvent) (later : List PlainEvent)
    → events ≡ before ++ event ∷ later →
    marks_of (drawn version g (state_after (after [] (history g before))) (known_of g before) event)
    ≡ next_marks (state_after (after [] (history g before))) (next_input g (history g before) event)

-- The iterator gave events and ended, and the text is that of their trace, in which a viewer reads
-- their timeline. Its begins and ends are the marks of the events, which are their timeline and add
-- up. Both groupings accept the same events, and draw the same but for the names of processes and
-- rows, the pids of the rows of tests, and the names of their slices. Its arrows pair. Each event
-- draws the marks of its spans; what it draws beside them is decided by the positions of the events
-- before it; and each process and each row is named once
pub record Converts {S : Type 0} (steps : S → Option (Result RecordedEvent LineError) → S → Type 0)
    (s : S) (g : ChromeTraceGroupBy) (format : ChromeTraceMessageFormat) (version : Parts)
    (text : List ℕ) : Type 0 where
  pub events : List RecordedEvent
  pub drained : Drains steps s (map Ok events)
  pub accepted : events_refusal g (map plain events) ≡ None
  pub written : text ≡ trace_text format g version (map plain events)
  pub printed : PrintsTimeline version g (map plain events) text
  pub marks : marks_of (trace_drawn version g (map plain events))
      ≡ trace_marks (history g (map plain events))
  pub timeline : IsTimeline (history g (map plain events))
  pub times : TimesAddUp (history g (map plain events))
  pub groupings : GroupingsAgree (map plain events)
  pub drawn_alike : all_ungrouped (trace_drawn version Binary (map plain events))
      ≡ all_ungrouped (trace_drawn version Slot (map plain events))
  pub prefixes : KeepsDrawn version g (map plain events)
  pub arrows : ArrowsPair (arrow_ends (trace_drawn version g (map plain events)))
  pub marks_of_each : MarksOfEach version g (map plain events)
  pub by_places : (before after : List PlainEvent) → map plain events ≡ before ++ after
      → IsKnownByPlaces g before (known_of g before)
  pub named_once : IsOnce (all_named (trace_drawn version g (map plain events)))

-- an item of the iterator is traced after others, or it is a fault
abbrev pub AddsItem : PrintedTrace → PrintedTrace → Result RecordedEvent LineError
    → Result ⊤ ChromeTraceError → Type 0
AddsItem old new (Ok event) r =
    (format : ChromeTraceMessageFormat) (g : ChromeTraceGroupBy) (version : Parts)
    (events : List PlainEvent)
    → HasTraced format g version events old
    → Traces format g version events (plain event) new r
AddsItem old new (Err fault) r = r ≡ Err (fault_error fault)

-- the iterator gave events without a cause to be refused, and then a fault, which is the error
pub record IsUnread {S : Type 0} (steps : S → Option (Result RecordedEvent LineError) → S → Type 0)
    (s : S) (g : ChromeTraceGroupBy) (e : ChromeTraceError) : Type 0 where
  pub events : List RecordedEvent
  pub fault : LineError
  pub rest : S
  pub yielded : YieldsThen steps s (map Ok events) (Some (Err fault)) rest
  pub answered : e ≡ ReadError fault
  pub no_memory : fault ≡ faults.OutOfMemory → ⊥
  pub accepted : events_refusal g (map plain events) ≡ None

-- the iterator gave events, of which the last is the first with a cause to be refused,
-- which is the error
pub record IsRefused {S : Type 0} (steps : S → Option (Result RecordedEvent LineError) → S → Type 0)
    (s : S) (g : ChromeTraceGroupBy) (e : ChromeTraceError) : Type 0 where
  pub before : List RecordedEvent
  pub event : RecordedEvent
  pub rest : S
  pub yielded : Yields steps s (map Ok (before ++ event ∷ [])) rest
  pub accepted : events_refusal g (map plain before) ≡ None
  pub refused : events_refusal g (map plain (before ++ event ∷ [])) ≡ Some e

-- why there is no trace: memory ran out, or the history can't be read, or an event is refused
abbrev pub HasNoTrace : {S : Type 0} → (S → Option (Result RecordedEvent LineError) → S → Type 0)
    → S → ChromeTraceGroupBy → ChromeTraceError → Type 0
HasNoTrace steps s g e = (e ≡ OutOfMemory) ⊎ (IsUnread steps s g e ⊎ IsRefused steps s g e)
