-- An event that was opened: what it starts is open and its binary is there,
-- and all else of it is still to come.
use Rattle.std.specs.Bool.{⊤}
use Rattle.std.specs.declared.alloc.AllocError.{AllocError}
use Rattle.std.specs.Map.{remove_entry}
use Rattle.std.specs.Prelude.{◌≡◌, ℕ, suc, Bool, false, not, List}
use Rattle.std.specs.Prelude.{bytes_eq, is_some, None, Result, Ok, Err}
use Rattle.rec_spans.specs.Acts.{Act}
use Rattle.rec_spans.specs.declared.opened.OpenedEvent.{OpenedEvent}
use Rattle.rec_spans.specs.declared.spans.Span.{Span}
use Rattle.rec_spans.specs.declared.spans.SpanKey.TheVariants as keys
use Rattle.rec_spans.specs.declared.spans.SpanKey.{SpanKey}
use Rattle.rec_spans.specs.History.{TraceState}
use Rattle.rec_spans.specs.Past.Change.{Start, Stop, Pause, Resume, Other}
use Rattle.rec_spans.specs.Past.{Change, TraceInput, binaries_after, flow_after}
use Rattle.rec_spans.specs.Past.{number_of, pause_after, put_in, scripts_after, without}
use Rattle.rec_spans.specs.Refusals.{next_refusal}

-- ---- spans

-- the spans with the one that a change starts, those without the one that it stops, and those
-- without the one that it started
abbrev pub spans_opened : Change → List Span → List Span
spans_opened (Start s) spans = put_in s spans
spans_opened (Stop k) spans = spans
spans_opened Pause spans = spans
spans_opened Resume spans = spans
spans_opened Other spans = spans

abbrev pub spans_closed : Change → List Span → List Span
spans_closed (Start s) spans = spans
spans_closed (Stop k) spans = without k spans
spans_closed Pause spans = spans
spans_closed Resume spans = spans
spans_closed Other spans = spans

abbrev pub spans_taken_back : Change → List Span → List Span
spans_taken_back (Start s) spans = without s.key spans
spans_taken_back (Stop k) spans = spans
spans_taken_back Pause spans = spans
spans_taken_back Resume spans = spans
spans_taken_back Other spans = spans

-- ---- binaries

-- whether no attempt of a binary has started
abbrev pub is_new : List ℕ → List (List ℕ × ℕ) → Bool
is_new b seen = not (is_some (number_of b seen))

abbrev pub key_adds : SpanKey → List (List ℕ × ℕ) → Bool
key_adds keys.Run seen = false
key_adds keys.SubRun seen = false
key_adds (keys.Script index) seen = false
key_adds (keys.Test test) seen = is_new test.binary_id seen

-- whether a change starts the first attempt of a binary
abbrev pub adds_binary : Change → List (List ℕ × ℕ) → Bool
adds_binary (Start s) seen = key_adds s.key seen
adds_binary (Stop k) seen = false
adds_binary Pause seen = false
adds_binary Resume seen = false
adds_binary Other seen = false

abbrev pub without_binary : List ℕ → List (List ℕ × ℕ) → List (List ℕ × ℕ)
without_binary b seen = remove_entry (λ c. bytes_eq b c) seen

abbrev pub without_key : SpanKey → List (List ℕ × ℕ) → List (List ℕ × ℕ)
without_key keys.Run seen = seen
without_key keys.SubRun seen = seen
without_key (keys.Script index) seen = seen
without_key (keys.Test test) seen = without_binary test.binary_id seen

-- the binaries without that of the attempt which a change started
abbrev pub binaries_taken_back : Change → List (List ℕ × ℕ) → List (List ℕ × ℕ)
binaries_taken_back (Start s) seen = without_key s.key seen
binaries_taken_back (Stop k) seen = seen
binaries_taken_back Pause seen = seen
binaries_taken_back Resume seen = seen
binaries_taken_back Other seen = seen

-- a span of no binary adds none
abbrev pub no_binary : Result ⊤ AllocError → Result Bool AllocError
no_binary (Ok u) = Ok false
no_binary (Err e) = Err e

-- ---- states

-- the state where what the event starts is open, and nothing else of it has changed
abbrev pub state_opened : TraceInput → TraceState → TraceState
state_opened input state = record state {
  spans = spans_opened input.change state.spans;
  binaries = binaries_after input.change state.binaries;
}

-- the state after the rest of an event, which has this number and leaves so many setup scripts
-- running
abbrev pub state_passed : Act → Change → ℕ → ℕ → TraceState → TraceState
state_passed act change number scripts state = record {
  number = number;
  in_pause = pause_after change state.in_pause;
  spans = spans_closed change state.spans;
  binaries = state.binaries;
  scripts = scripts;
  next_flow = flow_after act state.next_flow;
}

-- the next event after a state has no cause to be refused, and its number, how many setup scripts
-- run after it, and whether it adds a binary are known
pub record IsOpened (state : TraceState) (input : TraceInput) (opened : OpenedEvent) : Type 0 where
  pub accepted : next_refusal state input ≡ None
  pub numbered : opened.number ≡ suc state.number
  pub scripts : opened.running_scripts ≡ scripts_after input.act state.scripts
  pub added : opened.has_new_binary ≡ adds_binary input.change state.binaries
