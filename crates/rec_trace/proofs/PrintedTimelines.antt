-- A text that is read as the events of a trace prints their timeline.
use Rattle.std.proofs.Common.{◌≡◌, ℕ, List, None, Some, refl, sym}
use Rattle.semver.specs.Parse.{Parts}
use Rattle.rec_trace_events.specs.ReadEvents.{events_read}
use Rattle.rec_spans.specs.declared.settings.ChromeTraceGroupBy.TheVariants.{Binary, Slot}
use Rattle.rec_spans.specs.declared.settings.ChromeTraceGroupBy.{ChromeTraceGroupBy}
use Rattle.rec_spans.specs.Plain.{PlainEvent}
use Rattle.rec_spans.specs.Refusals.{events_refusal}
use Rattle.rec_trace.proofs.ReadArrows.{arrows-history}
use Rattle.rec_trace.proofs.ReadEvents.{events-prefix, events-readable, slices-history}
use Rattle.rec_trace.proofs.ReadGroupings.{groupings-read}
use Rattle.rec_trace.proofs.ReadPlaces.{places-history}
use Rattle.rec_trace.proofs.ReadTurns.{turns-history}
use Rattle.rec_trace.specs.Drawn.{all_events}
use Rattle.rec_trace.specs.Histories.{trace_drawn}
use Rattle.rec_trace.specs.PrintedTimeline.{PrintsTimeline}
use Rattle.rec_trace.specs.ReadGroupings.{all_ungrouped_read}
use Rattle.rec_trace.specs.ReadTexts.{events_in}

grouped-alike : (version : Parts) (events : List PlainEvent) (g k : ChromeTraceGroupBy)
    → all_ungrouped_read (events_read (all_events (trace_drawn version g events)))
    ≡ all_ungrouped_read (events_read (all_events (trace_drawn version k events)))
grouped-alike version events Binary Binary = refl
grouped-alike version events Binary Slot = groupings-read version events
grouped-alike version events Slot Binary = sym (groupings-read version events)
grouped-alike version events Slot Slot = refl

pub prints-timeline : (version : Parts) (g : ChromeTraceGroupBy) (events : List PlainEvent)
    (text : List ℕ)
    → events_refusal g events ≡ None
    → events_in text ≡ Some (all_events (trace_drawn version g events))
    → PrintsTimeline version g events text
prints-timeline version g events text accepted parsed = record {
  items = all_events (trace_drawn version g events);
  parsed = parsed;
  drawn = refl;
  readable = events-readable (trace_drawn version g events);
  slices = slices-history version g events;
  turns = λ row. turns-history version g events row accepted;
  arrows = arrows-history version g events accepted;
  arrows_at_slices = places-history version g events accepted;
  prefixes = events-prefix version g events accepted;
  groupings = grouped-alike version events g;
}
