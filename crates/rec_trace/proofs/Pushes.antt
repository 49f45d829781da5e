-- What is known and drawn of a history with one event more, and of its prefixes.
use Rattle.std.proofs.Common.{◌≡◌, List, [], ◌∷◌, ◌++◌, refl, sym, ◌∙◌, ap}
use Rattle.std.proofs.lemmas.List.Concat.{flat_map-append}
use Rattle.std.proofs.lemmas.List.{append_assoc, append-nil}
use Rattle.semver.specs.Parse.{Parts}
use Rattle.rec_spans.specs.declared.settings.ChromeTraceGroupBy.{ChromeTraceGroupBy}
use Rattle.rec_spans.specs.History.{after, state_after}
use Rattle.rec_spans.specs.Kinds.{history, history_after, trace_input}
use Rattle.rec_spans.specs.Past.{TraceInput, binaries}
use Rattle.rec_spans.specs.Plain.{PlainEvent}
use Rattle.rec_trace.specs.Drawn.{Drawn, all_events, events_of}
use Rattle.rec_trace.specs.Histories.{drawn_after, known_after, known_of}
use Rattle.rec_trace.specs.Histories.{known_after_event, trace_drawn}
use Rattle.rec_trace.specs.Known.{Known, nothing_known}
use Rattle.rec_trace.specs.Table.{drawn}

-- ---- two lists of events, one after the other

-- what is known after both
pub known_after-append : (g : ChromeTraceGroupBy) (past : List TraceInput) (known : Known)
    (xs ys : List PlainEvent)
    →
    known_after g past known (xs ++ ys)
    ≡ known_after g (after past (history_after g past xs)) (known_after g past known xs) ys
known_after-append g past known [] ys = refl
known_after-append g past known (x ∷ xs) ys =
    known_after-append g (trace_input g (binaries past) x ∷ past) (known_after_event g past x known)
    xs ys

-- what both draw
pub drawn_after-append : (version : Parts) (g : ChromeTraceGroupBy) (past : List TraceInput)
    (known : Known) (xs ys : List PlainEvent)
    →
    drawn_after version g past known (xs ++ ys)
    ≡ drawn_after version g past known xs
    ++ drawn_after version g (after past (history_after g past xs)) (known_after g past known xs) ys
drawn_after-append version g past known [] ys = refl
drawn_after-append version g past known (x ∷ xs) ys =
    let past' = trace_input g (binaries past) x ∷ past in
    let known' = known_after_event g past x known in
    let now = drawn version g (state_after past) known x in
    ap (λ (ds : List Drawn). now ++ ds) (drawn_after-append version g past' known' xs ys)
    ∙ sym (append_assoc now (drawn_after version g past' known' xs) (drawn_after version g
    (after past' (history_after g past' xs)) (known_after g past' known' xs) ys))

-- the trace events of two lists of what is drawn
pub all_events-append : (xs ys : List Drawn)
    → all_events (xs ++ ys) ≡ all_events xs ++ all_events ys
all_events-append xs ys = flat_map-append events_of xs ys

-- ---- one event more

-- what is known of a history with one event more
pub known-push : (g : ChromeTraceGroupBy) (events : List PlainEvent) (event : PlainEvent) →
    known_of g (events ++ event ∷ [])
    ≡ known_after_event g (after [] (history g events)) event (known_of g events)
known-push g events event = known_after-append g [] nothing_known events (event ∷ [])

-- what a history draws with one event more
pub drawn-push : (version : Parts) (g : ChromeTraceGroupBy) (events : List PlainEvent)
    (event : PlainEvent)
    →
    trace_drawn version g (events ++ event ∷ []) ≡ trace_drawn version g events ++ drawn version g
    (state_after (after [] (history g events))) (known_of g events) event
drawn-push version g events event =
    drawn_after-append version g [] nothing_known events (event ∷ [])
    ∙ ap (λ (ds : List Drawn). trace_drawn version g events ++ ds) (append-nil
    (drawn version g (state_after (after [] (history g events))) (known_of g events) event))
