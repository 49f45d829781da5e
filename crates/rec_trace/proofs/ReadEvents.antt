-- What is read of the events of what is drawn.
use Rattle.std.proofs.Common.{◌≡◌, List, [], ◌∷◌, ◌++◌, map, Option, None, Some, refl, sym, ap, ◌∙◌}
use Rattle.std.proofs.lemmas.List.Concat.{flat_map-append}
use Rattle.std.proofs.lemmas.List.Elements.{filter-append}
use Rattle.std.proofs.lemmas.List.{map-append}
use Rattle.std.specs.List.{filter_map}
use Rattle.std.specs.Prelude.{filter}
use Rattle.semver.specs.Parse.{Parts}
use Rattle.serde_json.specs.Data.{Data}
use Rattle.rec_trace_events.proofs.ReadEvents.{arrow_finish-read, arrow_start-read, begin-read}
use Rattle.rec_trace_events.proofs.ReadEvents.{end-read, mark-read, process-read, results-read}
use Rattle.rec_trace_events.proofs.ReadEvents.{row-read, running-read, slow-read}
use Rattle.rec_trace_events.specs.ReadEvents.{ReadEvent, event_read, events_read}
use Rattle.rec_trace_events.specs.ReadEvents.{is_slice, plain_read, slices_read}
use Rattle.rec_trace_events.specs.TraceEvents.{category_text}
use Rattle.rec_spans.specs.declared.settings.ChromeTraceGroupBy.{ChromeTraceGroupBy}
use Rattle.rec_spans.specs.declared.spans.Phase.TheVariants.{Begin, End}
use Rattle.rec_spans.specs.declared.spans.Phase.{Phase}
use Rattle.rec_spans.specs.History.{TraceState, next_marks, trace_marks}
use Rattle.rec_spans.specs.Kinds.{history, trace_input}
use Rattle.rec_spans.specs.Past.{Mark}
use Rattle.rec_spans.specs.Plain.{PlainEvent}
use Rattle.rec_spans.specs.Refusals.{events_refusal}
use Rattle.rec_trace.proofs.Marks.{marks-of-drawn, marks-of-trace}
use Rattle.rec_trace.proofs.Prefixes.{keeps-drawn}
use Rattle.rec_trace.specs.Drawn.Drawn.{Slice, ProcessNamed, RowNamed, Running, Results}
use Rattle.rec_trace.specs.Drawn.Drawn.{RunMarked, Slow, ArrowStarts, ArrowFinishes}
use Rattle.rec_trace.specs.Drawn.{Drawn, all_events, category_of, drawn_mark}
use Rattle.rec_trace.specs.Drawn.{events_of, marks_of, slice_event}
use Rattle.rec_trace.specs.Histories.{trace_drawn}
use Rattle.rec_trace.specs.Known.{Known}
use Rattle.rec_trace.specs.ReadDrawn.{all_read, phase_text, read_drawn, read_mark}
use Rattle.rec_trace.specs.Table.{drawn}

-- ---- one event

pub slice-read : (p : Phase) (m : Mark) (args : Option Data) → event_read (slice_event p m args)
    ≡ Some
    (plain_read (phase_text p) m.span.name (category_text (category_of m.span.key)) m.span.row m.at)
slice-read Begin m args = begin-read m.span.name (category_of m.span.key) m.span.row m.at args
slice-read End m args = end-read m.span.name (category_of m.span.key) m.span.row m.at args

-- ---- what is drawn

one : {o p : Option ReadEvent} → o ≡ p → o ∷ [] ≡ p ∷ []
one is = ap (λ (o : Option ReadEvent). o ∷ []) is

drawn-read : (d : Drawn) → map event_read (events_of d) ≡ map Some (read_drawn d)
drawn-read (Slice mark args) = one (slice-read mark.phase mark args)
drawn-read (ProcessNamed pid name) = process-read pid name
drawn-read (RowNamed row name) = row-read row name
drawn-read (Running counts at) = one (running-read counts at)
drawn-read (Results counts at) = one (results-read counts at)
drawn-read (RunMarked mark counts at) = one (mark-read mark counts at)
drawn-read (Slow category row at args) = one (slow-read category row at args)
drawn-read (ArrowStarts test row at flow) = one (arrow_start-read row at flow)
drawn-read (ArrowFinishes test row at flow) = one (arrow_finish-read row at flow)

pub events-read : (ds : List Drawn) → map event_read (all_events ds) ≡ map Some (all_read ds)
events-read [] = refl
events-read (d ∷ ds) =
    map-append event_read (events_of d) (all_events ds)
    ∙ (rw (drawn-read d, events-read ds) refl ∙ sym (map-append Some (read_drawn d) (all_read ds)))

-- ---- lists of events

abbrev somes : List (Option ReadEvent) → List ReadEvent
somes os = filter_map (λ o. o) os

somes-read : (ds : List Data) → somes (map event_read ds) ≡ events_read ds
somes-read [] = refl
somes-read (d ∷ ds) = rw (somes-read ds) refl

somes-some : (es : List ReadEvent) → somes (map Some es) ≡ es
somes-some [] = refl
somes-some (e ∷ es) = ap (λ (xs : List ReadEvent). e ∷ xs) (somes-some es)

-- the events are read as what is drawn
pub events-drawn : (ds : List Drawn) → events_read (all_events ds) ≡ all_read ds
events-drawn ds =
    sym (somes-read (all_events ds)) ∙ (ap somes (events-read ds) ∙ somes-some (all_read ds))

-- each event can be read
pub events-readable : (ds : List Drawn)
    → map event_read (all_events ds) ≡ map Some (events_read (all_events ds))
events-readable ds = events-read ds ∙ ap (map Some) (sym (events-drawn ds))

-- ---- slices

slice-phase : (p : Phase) (m : Mark)
    → filter is_slice
    (plain_read (phase_text p) m.span.name (category_text (category_of m.span.key)) m.span.row m.at
    ∷ [])
    ≡ plain_read (phase_text p) m.span.name (category_text (category_of m.span.key)) m.span.row m.at
    ∷ []
slice-phase Begin m = refl
slice-phase End m = refl

drawn-slices : (d : Drawn) → filter is_slice (read_drawn d) ≡ map read_mark (drawn_mark d)
drawn-slices (Slice mark args) = slice-phase mark.phase mark
drawn-slices (ProcessNamed pid name) = refl
drawn-slices (RowNamed row name) = refl
drawn-slices (Running counts at) = refl
drawn-slices (Results counts at) = refl
drawn-slices (RunMarked mark counts at) = refl
drawn-slices (Slow category row at args) = refl
drawn-slices (ArrowStarts test row at flow) = refl
drawn-slices (ArrowFinishes test row at flow) = refl

all-slices : (ds : List Drawn) → filter is_slice (all_read ds) ≡ map read_mark (marks_of ds)
all-slices [] = refl
all-slices (d ∷ ds) =
    filter-append is_slice (read_drawn d) (all_read ds)
    ∙ (rw (drawn-slices d, all-slices ds) refl
    ∙ sym (map-append read_mark (drawn_mark d) (marks_of ds)))

-- the begins and ends that are read are the marks
pub slices-drawn : (ds : List Drawn) → slices_read (all_events ds) ≡ map read_mark (marks_of ds)
slices-drawn ds = ap (filter is_slice) (events-drawn ds) ∙ all-slices ds

pub slices-history : (version : Parts) (g : ChromeTraceGroupBy) (events : List PlainEvent)
    → slices_read (all_events (trace_drawn version g events))
    ≡ map read_mark (trace_marks (history g events))
slices-history version g events =
    slices-drawn (trace_drawn version g events)
    ∙ ap (map read_mark) (marks-of-trace version g events)

-- and so are those that one event adds, after any state
pub slices-event : (version : Parts) (g : ChromeTraceGroupBy) (state : TraceState) (known : Known)
    (event : PlainEvent)
    → slices_read (all_events (drawn version g state known event))
    ≡ map read_mark (next_marks state (trace_input g state.binaries event))
slices-event version g state known event =
    slices-drawn (drawn version g state known event)
    ∙ ap (map read_mark) (marks-of-drawn version g state known event)

-- the events of a prefix are the first ones
pub events-prefix : (version : Parts) (g : ChromeTraceGroupBy) (events : List PlainEvent)
    → events_refusal g events ≡ None → (xs ys : List PlainEvent) → events ≡ xs ++ ys
    → (more : List Data)
    × (all_events (trace_drawn version g events) ≡ all_events (trace_drawn version g xs) ++ more)
events-prefix version g events ok xs ys is =
    let (accepted, (more, same)) = keeps-drawn version g events ok xs ys is in (
      all_events more,
      ap all_events same ∙ flat_map-append events_of (trace_drawn version g xs) more,
    )
