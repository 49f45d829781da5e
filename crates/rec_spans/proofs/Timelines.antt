-- The marks of a history that has a trace are a timeline.
use Rattle.std.proofs.Common.{◌≡◌, List, None}
use Rattle.rec_spans.proofs.SlicesOfHistory.{history-one_begins, history-one_ends, history-slices}
use Rattle.rec_spans.proofs.TurnsOfHistory.{history-turns}
use Rattle.rec_spans.specs.declared.settings.ChromeTraceGroupBy.{ChromeTraceGroupBy}
use Rattle.rec_spans.specs.Kinds.{history}
use Rattle.rec_spans.specs.Plain.{PlainEvent}
use Rattle.rec_spans.specs.Refusals.{history_refusal}
use Rattle.rec_spans.specs.Timeline.{IsTimeline}

pub timeline : (g : ChromeTraceGroupBy) (events : List PlainEvent)
    → history_refusal (history g events) ≡ None → IsTimeline (history g events)
timeline g events accepted = record {
  turns = history-turns g events accepted;
  slices = history-slices g events accepted;
  one_begins = history-one_begins g events accepted;
  one_ends = history-one_ends g events accepted;
}
