-- How much a builder holds.
use Rattle.std.specs.List.{IsDistinct, list_any}
use Rattle.std.specs.Prelude.{◌≡◌, ℕ, ◌+◌, ◌-◌, ◌^◌, Bool, List, [], length, min, is_some}
use Rattle.rec_events.specs.Tests.{test_eq}
use Rattle.rec_spans.specs.declared.settings.ChromeTraceGroupBy.TheVariants.{Binary, Slot}
use Rattle.rec_spans.specs.declared.settings.ChromeTraceGroupBy.{ChromeTraceGroupBy}
use Rattle.rec_spans.specs.History.{after}
use Rattle.rec_spans.specs.Keys.{row_eq}
use Rattle.rec_spans.specs.Kinds.{history}
use Rattle.rec_spans.specs.Past.{binaries, open_spans}
use Rattle.rec_spans.specs.Plain.{PlainEvent}
use Rattle.rec_trace.specs.Histories.{known_of}

-- so many things pass a test: they are those of a list in which each stands once
pub record IsCountOf {X : Type 0} (eq : X → X → Bool) (test : X → Bool) (count : ℕ) : Type 0 where
  pub listed : List X
  pub once : IsDistinct eq listed
  pub each : (x : X) → list_any (eq x) listed ≡ test x
  pub many : count ≡ length listed

-- the binaries that have started an attempt, where each of them is a process
abbrev pub binaries_held : ChromeTraceGroupBy → List (List ℕ × ℕ) → ℕ
binaries_held Binary seen = length seen
binaries_held Slot seen = 0

-- The open spans, the rows and processes that were named, where the first row of a process stands
-- for the process, the tests of which an arrow is pending, and the binaries that are processes,
-- added up, as far as a usize counts
pub record IsHeld (g : ChromeTraceGroupBy) (events : List PlainEvent) (held : ℕ) : Type 0 where
  pub named : ℕ
  pub pending : ℕ
  pub names : IsCountOf row_eq (known_of g events).is_named named
  pub arrows : IsCountOf test_eq (λ test. is_some ((known_of g events).arrow test)) pending
  pub adds : held ≡ min (length (open_spans (after [] (history g events))) + named + pending
      + binaries_held g (binaries (after [] (history g events))))
      (2 ^ 64 - 1)
