-- The past of a history with one event more.
use Rattle.std.proofs.Common.{◌≡◌, List, [], ◌∷◌, ◌++◌, refl, ◌∙◌, ap}
use Rattle.rec_spans.proofs.Histories.{history_after-append}
use Rattle.rec_spans.specs.declared.settings.ChromeTraceGroupBy.{ChromeTraceGroupBy}
use Rattle.rec_spans.specs.History.{after}
use Rattle.rec_spans.specs.Kinds.{history, history_after, next_input}
use Rattle.rec_spans.specs.Past.{TraceInput}
use Rattle.rec_spans.specs.Plain.{PlainEvent}

after-append : (past xs ys : List TraceInput) → after past (xs ++ ys) ≡ after (after past xs) ys
after-append past [] ys = refl
after-append past (x ∷ xs) ys = after-append (x ∷ past) xs ys

-- the event stands before all others, of which the newest is the first
pub past-push : (g : ChromeTraceGroupBy) (events : List PlainEvent) (event : PlainEvent)
    → after [] (history g (events ++ event ∷ []))
    ≡ next_input g (history g events) event ∷ after [] (history g events)
past-push g events event =
    ap (after []) (history_after-append g [] events (event ∷ [])) ∙ after-append []
    (history g events) (history_after g (after [] (history g events)) (event ∷ []))
