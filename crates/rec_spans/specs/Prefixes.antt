-- What a history that is not refused keeps of each of its prefixes.
use Rattle.std.specs.Prelude.{◌≡◌, List, ◌++◌, None}
use Rattle.rec_spans.specs.declared.settings.ChromeTraceGroupBy.{ChromeTraceGroupBy}
use Rattle.rec_spans.specs.History.{trace_marks}
use Rattle.rec_spans.specs.Kinds.{history}
use Rattle.rec_spans.specs.Past.{Mark}
use Rattle.rec_spans.specs.Plain.{PlainEvent}
use Rattle.rec_spans.specs.Refusals.{events_refusal}

-- each prefix of these events has a trace, whose marks are the first of theirs
abbrev pub KeepsPrefixes : ChromeTraceGroupBy → List PlainEvent → Type 0
KeepsPrefixes g events = (xs ys : List PlainEvent) → events ≡ xs ++ ys →
    (events_refusal g xs ≡ None)
    × ((more : List Mark) × (trace_marks (history g events) ≡ trace_marks (history g xs) ++ more))
