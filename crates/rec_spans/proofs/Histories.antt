-- A history is a fold over events: each is seen after those before it.
use Rattle.std.proofs.Common.{◌≡◌, List, [], ◌∷◌, ◌++◌, Some, ap, refl, ◌∙◌}
use Rattle.std.specs.Option.{option_or}
use Rattle.rec_spans.proofs.Acceptance.{history_refusal_after-append}
use Rattle.rec_spans.specs.declared.errors.ChromeTraceError.{ChromeTraceError}
use Rattle.rec_spans.specs.declared.settings.ChromeTraceGroupBy.{ChromeTraceGroupBy}
use Rattle.rec_spans.specs.History.{after}
use Rattle.rec_spans.specs.Kinds.{history, history_after, next_input, trace_input}
use Rattle.rec_spans.specs.Past.{TraceInput, binaries}
use Rattle.rec_spans.specs.Plain.{PlainEvent}
use Rattle.rec_spans.specs.Refusals.{events_refusal, history_refusal, history_refusal_after}

-- the history of two lists of events
pub history_after-append : (g : ChromeTraceGroupBy) (past : List TraceInput)
    (xs ys : List PlainEvent)
    →
    history_after g past (xs ++ ys)
    ≡ history_after g past xs ++ history_after g (after past (history_after g past xs)) ys
history_after-append g past [] ys = refl
history_after-append g past (x ∷ xs) ys =
    let input = trace_input g (binaries past) x in
    ap (λ (inputs : List TraceInput). input ∷ inputs) (history_after-append g (input ∷ past) xs ys)

pub history-append : (g : ChromeTraceGroupBy) (xs ys : List PlainEvent)
    → history g (xs ++ ys) ≡ history g xs ++ history_after g (after [] (history g xs)) ys
history-append g xs ys = history_after-append g [] xs ys

-- the history with one event more
pub history-push : (g : ChromeTraceGroupBy) (events : List PlainEvent) (event : PlainEvent)
    → history g (events ++ event ∷ [])
    ≡ history g events ++ next_input g (history g events) event ∷ []
history-push g events event = history-append g events (event ∷ [])

-- events that are refused stay so with more after them
pub refused-more : (g : ChromeTraceGroupBy) (xs ys : List PlainEvent) (e : ChromeTraceError)
    → events_refusal g xs ≡ Some e → events_refusal g (xs ++ ys) ≡ Some e
refused-more g xs ys e refused =
    let past = after [] (history g xs) in
    let more = history_after g past ys in
    ap history_refusal (history-append g xs ys)
    ∙ history_refusal_after-append [] (history g xs) more
    ∙ ap (λ o. option_or o (history_refusal_after past more)) refused
