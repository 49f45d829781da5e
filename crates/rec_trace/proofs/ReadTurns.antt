-- The begins and ends that are read of a trace take turns on each row.
use Rattle.std.proofs.Common.{◌≡◌, ℕ, Bool, true, false, cond, List, [], ◌∷◌}
use Rattle.std.proofs.Common.{map, Option, None, Some, refl, sym, ap, ◌∙◌, subst}
use Rattle.semver.specs.Parse.{Parts}
use Rattle.rec_trace_events.specs.declared.rows.Row.{Row}
use Rattle.rec_trace_events.specs.ReadEvents.{ReadEvent, slices_read}
use Rattle.rec_spans.proofs.Timelines.{timeline}
use Rattle.rec_spans.specs.declared.settings.ChromeTraceGroupBy.{ChromeTraceGroupBy}
use Rattle.rec_spans.specs.History.{after, trace_marks}
use Rattle.rec_spans.specs.Keys.{row_eq}
use Rattle.rec_spans.specs.Kinds.{history}
use Rattle.rec_spans.specs.Past.{Mark, in_row, is_paused, open_spans}
use Rattle.rec_spans.specs.Plain.{PlainEvent}
use Rattle.rec_spans.specs.Refusals.{events_refusal}
use Rattle.rec_spans.specs.Turns.{TakeTurns, left_open, on_row}
use Rattle.rec_trace.proofs.ReadEvents.{slices-history}
use Rattle.rec_trace.specs.Drawn.{all_events}
use Rattle.rec_trace.specs.Histories.{trace_drawn}
use Rattle.rec_trace.specs.ReadDrawn.{phase_text, read_mark}
use Rattle.rec_trace.specs.ReadTurns.{ReadInTurns, read_on_row}

-- marks that take turns do so as they are read
turns-read : (before after : Option (List ℕ)) (ms : List Mark) → TakeTurns before ms after
    → ReadInTurns before (map read_mark ms) after
turns-read None after [] turns = turns
turns-read (Some name) after [] turns = turns
turns-read None after (m ∷ ms) (begins, rest) =
    (ap phase_text begins, turns-read (Some m.span.name) after ms rest)
turns-read (Some name) after (m ∷ ms) (ends, same, rest) =
    (ap phase_text ends, same, turns-read None after ms rest)

row-read : (r : Row) (ms : List Mark)
    → read_on_row r (map read_mark ms) ≡ map read_mark (on_row r ms)
row-read r [] = refl
row-read r (m ∷ ms) = rw (row-read r ms) (go (row_eq m.span.row r))
  where
    go : (b : Bool)
        → cond b (read_mark m ∷ map read_mark (on_row r ms)) (map read_mark (on_row r ms))
        ≡ map read_mark (cond b (m ∷ on_row r ms) (on_row r ms))
    go true = refl
    go false = refl

pub turns-history : (version : Parts) (g : ChromeTraceGroupBy) (events : List PlainEvent) (r : Row)
    → events_refusal g events ≡ None
    → ReadInTurns None (read_on_row r (slices_read (all_events (trace_drawn version g events))))
    (left_open (is_paused (after [] (history g events)))
    (in_row r (open_spans (after [] (history g events)))))
turns-history version g events r accepted =
    let marks = trace_marks (history g events) in
    let open_at_end = left_open (is_paused (after [] (history g events)))
    (in_row r (open_spans (after [] (history g events)))) in
    let same = ap (read_on_row r) (slices-history version g events) ∙ row-read r marks in
    subst (λ (es : List ReadEvent). ReadInTurns None es open_at_end) (sym same)
    (turns-read None open_at_end (on_row r marks) ((timeline g events accepted).turns r))
