-- What both groupings show alike of events: all but the pids and the names of tests.
use Rattle.std.specs.Prelude.{◌≡◌, ◌<◌, ◌^◌, List, [], length, map}
use Rattle.rec_spans.specs.declared.settings.ChromeTraceGroupBy.TheVariants.{Binary, Slot}
use Rattle.rec_spans.specs.declared.spans.Span.{Span}
use Rattle.rec_spans.specs.declared.spans.SpanKey.TheVariants as keys
use Rattle.rec_spans.specs.declared.spans.SpanKey.{SpanKey}
use Rattle.rec_spans.specs.History.{trace_marks}
use Rattle.rec_spans.specs.Kinds.{history}
use Rattle.rec_spans.specs.Past.{Mark}
use Rattle.rec_spans.specs.Plain.{PlainEvent}
use Rattle.rec_spans.specs.Refusals.{events_refusal}

-- a span of this key without what the grouping decides, which is the pid and the name of a test
abbrev pub ungrouped_of : SpanKey → Span → Span
ungrouped_of keys.Run s = s
ungrouped_of keys.SubRun s = s
ungrouped_of (keys.Script index) s = s
ungrouped_of (keys.Test test) s = record s { row = record { pid = 0; tid = s.row.tid }; name = [] }

abbrev pub ungrouped : Span → Span
ungrouped s = ungrouped_of s.key s

abbrev pub ungrouped_mark : Mark → Mark
ungrouped_mark m = record m { span = ungrouped m.span }

-- both groupings give the same marks of events but for the pids and the names of tests, and the
-- same refusal, if there is one, where the events are fewer than 2^63
pub record GroupingsAgree (events : List PlainEvent) : Type 0 where
  pub refusal : length events < 2 ^ 63 → events_refusal Binary events ≡ events_refusal Slot events
  pub marks : map ungrouped_mark (trace_marks (history Binary events))
      ≡ map ungrouped_mark (trace_marks (history Slot events))
