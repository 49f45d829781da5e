-- The trace of events that are accepted draws their timeline.
use Rattle.std.proofs.Common.{◌≡◌, List, None}
use Rattle.semver.specs.Parse.{Parts}
use Rattle.rec_spans.proofs.Timelines.{timeline}
use Rattle.rec_spans.specs.declared.settings.ChromeTraceGroupBy.{ChromeTraceGroupBy}
use Rattle.rec_spans.specs.Plain.{PlainEvent}
use Rattle.rec_spans.specs.Refusals.{events_refusal}
use Rattle.rec_trace.proofs.Arrows.{arrows-pair}
use Rattle.rec_trace.proofs.Marks.{marks-of-trace}
use Rattle.rec_export.specs.Timelines.{DrawsTimeline}

pub draws_timeline : (version : Parts) (g : ChromeTraceGroupBy) (events : List PlainEvent)
    → events_refusal g events ≡ None → DrawsTimeline version g events
draws_timeline version g events accepted = record {
  marks = marks-of-trace version g events;
  timeline = timeline g events accepted;
  arrows = arrows-pair version g events accepted;
}
