-- What an event does to the spans of a trace, after the binaries that have started an attempt,
-- and the history of events.
use Rattle.std.specs.Option.{unwrap_or}
use Rattle.std.specs.Prelude.{ℕ, ℤ, ◌+◌, List, [], ◌∷◌, ◌++◌, length, codes}
use Rattle.rec_events.specs.declared.instances.OwnedTestInstanceId.{OwnedTestInstanceId}
use Rattle.rec_events.specs.Times.{micros}
use Rattle.rec_trace_events.specs.declared.rows.Row.{Row}
use Rattle.rec_spans.specs.Acts.Act.{RunStarts, RunEnds, SubRunStarts, SubRunEnds}
use Rattle.rec_spans.specs.Acts.Act.{ScriptStarts, ScriptEnds, AttemptStarts}
use Rattle.rec_spans.specs.Acts.Act.{AttemptFails, TestEnds, Pauses, Continues}
use Rattle.rec_spans.specs.Acts.{Act, act_of}
use Rattle.rec_spans.specs.declared.settings.ChromeTraceGroupBy.TheVariants.{Binary, Slot}
use Rattle.rec_spans.specs.declared.settings.ChromeTraceGroupBy.{ChromeTraceGroupBy}
use Rattle.rec_spans.specs.declared.spans.Place.TheVariants as places
use Rattle.rec_spans.specs.declared.spans.Span.{Span}
use Rattle.rec_spans.specs.declared.spans.SpanKey.TheVariants as keys
use Rattle.rec_spans.specs.History.{after}
use Rattle.rec_spans.specs.Past.Change.{Start, Stop, Pause, Resume, Other}
use Rattle.rec_spans.specs.Past.{Change, TraceInput, binaries, number_of}
use Rattle.rec_spans.specs.Plain.{PlainEvent}

-- ---- spans

abbrev pub run_span : Span
run_span = record {
  key = keys.Run;
  place = places.Run;
  row = record { pid = 0; tid = 1 };
  name = codes "test run";
}

abbrev pub sub_run_span : Span
sub_run_span = record {
  key = keys.SubRun;
  place = places.SubRun;
  row = record { pid = 0; tid = 2 };
  name = codes "sub-run";
}

-- all setup scripts are threads of one process
abbrev pub script_span : ℕ → List ℕ → Span
script_span index id = record {
  key = keys.Script index;
  place = places.Script index;
  row = record { pid = 1; tid = index + 10000 };
  name = id;
}

-- the process of a binary: 2 and how many others started an attempt before it, or one for all
abbrev pub pid_of : ChromeTraceGroupBy → List (List ℕ × ℕ) → List ℕ → ℕ
pid_of Binary seen b = 2 + unwrap_or (number_of b seen) (length seen)
pid_of Slot seen b = 2

-- a process has a thread for each slot
abbrev pub test_row : ChromeTraceGroupBy → List (List ℕ × ℕ) → OwnedTestInstanceId → ℕ → Row
test_row g seen test slot = record { pid = pid_of g seen test.binary_id; tid = slot + 10000 }

-- a process that is a binary needs no name of it beside the test's
abbrev pub test_name : ChromeTraceGroupBy → OwnedTestInstanceId → List ℕ
test_name Binary test = test.test_name
test_name Slot test = test.binary_id ++ 32 ∷ test.test_name

abbrev pub test_span : ChromeTraceGroupBy → List (List ℕ × ℕ) → OwnedTestInstanceId → ℕ → Span
test_span g seen test slot = record {
  key = keys.Test test;
  place = places.Slot slot;
  row = test_row g seen test slot;
  name = test_name g test;
}

-- ---- events

abbrev pub change_of : ChromeTraceGroupBy → List (List ℕ × ℕ) → Act → Change
change_of g seen RunStarts = Start run_span
change_of g seen RunEnds = Stop keys.Run
change_of g seen SubRunStarts = Start sub_run_span
change_of g seen SubRunEnds = Stop keys.SubRun
change_of g seen (ScriptStarts index id) = Start (script_span index id)
change_of g seen (ScriptEnds index id) = Stop (keys.Script index)
change_of g seen (AttemptStarts test slot) = Start (test_span g seen test slot)
change_of g seen (AttemptFails test) = Stop (keys.Test test)
change_of g seen (TestEnds test failures) = Stop (keys.Test test)
change_of g seen (Pauses scripts) = Pause
change_of g seen (Continues scripts) = Resume
change_of g seen _ = Other

-- what is an act at an instant, as a trace sees it
abbrev pub act_input : ChromeTraceGroupBy → List (List ℕ × ℕ) → ℤ → Act → TraceInput
act_input g seen t act = record { at = t; act = act; change = change_of g seen act }

-- an event as a trace sees it
abbrev pub trace_input : ChromeTraceGroupBy → List (List ℕ × ℕ) → PlainEvent → TraceInput
trace_input g seen event = act_input g seen (micros event.timestamp) (act_of event.kind)

-- ---- histories

-- the history of these events after a past: each is seen after the binaries before it
abbrev pub history_after : ChromeTraceGroupBy → List TraceInput → List PlainEvent → List TraceInput
history_after g past [] = []
history_after g past (event ∷ events) =
    let input = trace_input g (binaries past) event in input ∷ history_after g (input ∷ past) events

-- the history of events
abbrev pub history : ChromeTraceGroupBy → List PlainEvent → List TraceInput
history g events = history_after g [] events

-- the next event after a history
abbrev pub next_input : ChromeTraceGroupBy → List TraceInput → PlainEvent → TraceInput
next_input g past event = trace_input g (binaries (after [] past)) event
