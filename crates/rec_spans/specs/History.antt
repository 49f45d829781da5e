-- The marks of a history, from its first event on, and the state after it. A history is a list of
-- trace inputs, the oldest first.
use Rattle.std.specs.Prelude.{ℕ, suc, Bool, List, [], ◌∷◌, ◌++◌, length}
use Rattle.rec_spans.specs.declared.spans.Span.{Span}
use Rattle.rec_spans.specs.Past.{Mark, TraceInput, binaries, binaries_after, change_marks}
use Rattle.rec_spans.specs.Past.{event_marks, flow_after, is_paused, next_flow, open_after}
use Rattle.rec_spans.specs.Past.{open_spans, pause_after, running_scripts, scripts_after}

-- the past with these events after it
abbrev pub after : List TraceInput → List TraceInput → List TraceInput
after past [] = past
after past (input ∷ history) = after (input ∷ past) history

-- the marks of these events after a past, in order
abbrev pub marks_after : List TraceInput → List TraceInput → List Mark
marks_after past [] = []
marks_after past (input ∷ history) = event_marks past input ++ marks_after (input ∷ past) history

-- the marks of a history
abbrev pub trace_marks : List TraceInput → List Mark
trace_marks history = marks_after [] history

-- all that the next event needs of the past: how many events there were, whether the run is in a
-- pause, which spans are open, which binaries started an attempt, how many setup scripts run,
-- and the next flow number
pub record TraceState : Type 0 where
  pub number : ℕ
  pub in_pause : Bool
  pub spans : List Span
  pub binaries : List (List ℕ × ℕ)
  pub scripts : ℕ
  pub next_flow : ℕ

-- the state after a past
abbrev pub state_after : List TraceInput → TraceState
state_after past = record {
  number = length past;
  in_pause = is_paused past;
  spans = open_spans past;
  binaries = binaries past;
  scripts = running_scripts past;
  next_flow = next_flow past;
}

abbrev pub initial_state : TraceState
initial_state = state_after []

-- the state after one event more, by the state before it
abbrev pub next_state : TraceInput → TraceState → TraceState
next_state input state = record {
  number = suc state.number;
  in_pause = pause_after input.change state.in_pause;
  spans = open_after input.change state.spans;
  binaries = binaries_after input.change state.binaries;
  scripts = scripts_after input.act state.scripts;
  next_flow = flow_after input.act state.next_flow;
}

-- the marks of the next event, by the state
abbrev pub next_marks : TraceState → TraceInput → List Mark
next_marks state input = change_marks state.in_pause state.spans input.at input.change
