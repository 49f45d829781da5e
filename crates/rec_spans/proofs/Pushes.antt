-- Histories with one event more, and their prefixes.
use Rattle.std.proofs.Common.{◌≡◌, List, [], ◌∷◌, ◌++◌, Option, None, Some, ap, refl, sym, ◌∙◌}
use Rattle.std.proofs.lemmas.List.{append-nil}
use Rattle.std.specs.Option.{option_or}
use Rattle.rec_spans.proofs.Acceptance.{accepted-prefix, history_refusal_after-append}
use Rattle.rec_spans.proofs.Histories.{history-append, history-push}
use Rattle.rec_spans.proofs.Prefixes.{after-append, marks_after-append}
use Rattle.rec_spans.specs.declared.errors.ChromeTraceError.{ChromeTraceError}
use Rattle.rec_spans.specs.declared.settings.ChromeTraceGroupBy.{ChromeTraceGroupBy}
use Rattle.rec_spans.specs.History.{after, marks_after, next_marks}
use Rattle.rec_spans.specs.History.{next_state, state_after, trace_marks}
use Rattle.rec_spans.specs.Kinds.{history, history_after, next_input}
use Rattle.rec_spans.specs.Past.{TraceInput, event_marks}
use Rattle.rec_spans.specs.Plain.{PlainEvent}
use Rattle.rec_spans.specs.Prefixes.{KeepsPrefixes}
use Rattle.rec_spans.specs.Refusals.{events_refusal, history_refusal}
use Rattle.rec_spans.specs.Refusals.{history_refusal_after, next_refusal}

-- ---- one event more

-- the cause of the last event of a history is that of the history,
-- where the events before have none
pub history_refusal-push : (history : List TraceInput) (h : TraceInput)
    → history_refusal history ≡ None
    → history_refusal (history ++ h ∷ []) ≡ next_refusal (state_after (after [] history)) h
history_refusal-push history h none =
    history_refusal_after-append [] history (h ∷ [])
    ∙ ap (λ o. option_or o (history_refusal_after (after [] history) (h ∷ []))) none
    ∙ go (next_refusal (state_after (after [] history)) h)
  where
    go : (o : Option ChromeTraceError) → option_or o None ≡ o
    go None = refl
    go (Some e) = refl

-- the marks of a history with one event more
pub marks-push : (history : List TraceInput) (h : TraceInput)
    → trace_marks (history ++ h ∷ [])
    ≡ trace_marks history ++ next_marks (state_after (after [] history)) h
marks-push history h =
    marks_after-append [] history (h ∷ [])
    ∙ ap (λ ms. trace_marks history ++ ms) (append-nil (event_marks (after [] history) h))

-- the state after a history with one event more
pub state-push : (history : List TraceInput) (h : TraceInput)
    → state_after (after [] (history ++ h ∷ [])) ≡ next_state h (state_after (after [] history))
state-push history h = ap state_after (after-append [] history (h ∷ []))

-- the cause of events with one more is that of the last, as the state after the others sees it,
-- where the others have none
pub events_refusal-push : (g : ChromeTraceGroupBy) (events : List PlainEvent) (event : PlainEvent)
    → events_refusal g events ≡ None →
    events_refusal g (events ++ event ∷ []) ≡ next_refusal
    (state_after (after [] (history g events))) (next_input g (history g events) event)
events_refusal-push g events event none =
    ap history_refusal (history-push g events event)
    ∙ history_refusal-push (history g events) (next_input g (history g events) event) none

-- ---- prefixes

-- each prefix of events that have a trace has one too
pub keeps-prefixes : (g : ChromeTraceGroupBy) (events : List PlainEvent)
    → events_refusal g events ≡ None → KeepsPrefixes g events
keeps-prefixes g events ok xs ys is =
    let more = history_after g (after [] (history g xs)) ys in
    let parts : history g events ≡ history g xs ++ more =
    ap (history g) is ∙ history-append g xs ys in (
      accepted-prefix (history g xs) more (ap history_refusal (sym parts) ∙ ok),
      (
        marks_after (after [] (history g xs)) more,
        ap trace_marks parts ∙ marks_after-append [] (history g xs) more,
      ),
    )
