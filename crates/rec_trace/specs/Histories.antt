-- What a history of events draws, from its first event on.
use Rattle.std.specs.Prelude.{List, [], ◌∷◌, ◌++◌}
use Rattle.semver.specs.Parse.{Parts}
use Rattle.rec_spans.specs.declared.settings.ChromeTraceGroupBy.{ChromeTraceGroupBy}
use Rattle.rec_spans.specs.History.{state_after}
use Rattle.rec_spans.specs.Kinds.{trace_input}
use Rattle.rec_spans.specs.Past.{TraceInput, binaries, next_flow}
use Rattle.rec_spans.specs.Plain.{PlainEvent}
use Rattle.rec_trace.specs.Drawn.{Drawn}
use Rattle.rec_trace.specs.Known.{Known, next_known, nothing_known}
use Rattle.rec_trace.specs.Table.{drawn}

-- what is known after one event more
abbrev pub known_after_event : ChromeTraceGroupBy → List TraceInput → PlainEvent → Known → Known
known_after_event g past event known =
    next_known (next_flow past) (trace_input g (binaries past) event) event.kind known

-- what is known after these events, of which each is seen after the past before it
abbrev pub known_after : ChromeTraceGroupBy → List TraceInput → Known → List PlainEvent → Known
known_after g past known [] = known
known_after g past known (event ∷ events) =
    known_after g (trace_input g (binaries past) event ∷ past)
    (known_after_event g past event known) events

-- what these events draw, in order
abbrev pub drawn_after : Parts → ChromeTraceGroupBy → List TraceInput → Known → List PlainEvent
    → List Drawn
drawn_after version g past known [] = []
drawn_after version g past known (event ∷ events) =
    drawn version g (state_after past) known event
    ++ drawn_after version g (trace_input g (binaries past) event ∷ past)
    (known_after_event g past event known) events

-- what is known after all events of a history
abbrev pub known_of : ChromeTraceGroupBy → List PlainEvent → Known
known_of g events = known_after g [] nothing_known events

-- all that a history draws, of runs of this version of the runner
abbrev pub trace_drawn : Parts → ChromeTraceGroupBy → List PlainEvent → List Drawn
trace_drawn version g events = drawn_after version g [] nothing_known events
