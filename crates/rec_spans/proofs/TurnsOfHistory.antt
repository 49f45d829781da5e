-- On each row of the trace of events begins and ends take turns.
use Rattle.std.proofs.Common.{◌≡◌, List, [], None}
use Rattle.rec_trace_events.specs.declared.rows.Row.{Row}
use Rattle.rec_spans.proofs.Acceptance.{history-room}
use Rattle.rec_spans.proofs.Rows.{room-turns}
use Rattle.rec_spans.specs.declared.settings.ChromeTraceGroupBy.{ChromeTraceGroupBy}
use Rattle.rec_spans.specs.History.{after, trace_marks}
use Rattle.rec_spans.specs.Kinds.{history}
use Rattle.rec_spans.specs.Past.{in_row, is_paused, open_spans}
use Rattle.rec_spans.specs.Plain.{PlainEvent}
use Rattle.rec_spans.specs.Refusals.{history_refusal}
use Rattle.rec_spans.specs.Turns.{TakeTurns, left_open, on_row}

-- on each row of an accepted history begins and ends take turns,
-- and what they leave open is the span that is open there
pub history-turns : (g : ChromeTraceGroupBy) (events : List PlainEvent)
    → history_refusal (history g events) ≡ None → (r : Row) →
    TakeTurns None (on_row r (trace_marks (history g events))) (left_open
    (is_paused (after [] (history g events))) (in_row r (open_spans (after [] (history g events)))))
history-turns g events ok r = room-turns (history g events) (history-room g events ok) r
