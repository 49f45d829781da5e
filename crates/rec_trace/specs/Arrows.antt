-- How the arrows of a trace go together.
use Rattle.std.specs.List.{flat_map}
use Rattle.std.specs.Prelude.{◌≡◌, ℕ, List, [], ◌∷◌, ◌++◌, map, Option, option_map, option_to_list}
use Rattle.rec_events.specs.declared.events.CoreEventKind.TheVariants.{TestRetryStarted}
use Rattle.rec_events.specs.declared.events.CoreEventKind.{CoreEventKind}
use Rattle.rec_events.specs.declared.events.OutputEventKind.TheVariants.{
  SetupScriptFinished,
  TestAttemptFailedWillRetry,
  TestFinished,
}
use Rattle.rec_events.specs.declared.events.TestEventKindSummary.TheVariants.{Core, Output}
use Rattle.rec_events.specs.declared.instances.OwnedTestInstanceId.{OwnedTestInstanceId}
use Rattle.rec_spans.specs.declared.spans.Span.{Span}
use Rattle.rec_spans.specs.declared.spans.SpanKey.TheVariants as keys
use Rattle.rec_spans.specs.Past.{of_key}
use Rattle.rec_spans.specs.Plain.{PlainKind, PlainOutputKind}
use Rattle.rec_spans.specs.Positions.{Has}
use Rattle.rec_trace.specs.Drawn.Drawn.{ArrowStarts, ArrowFinishes}
use Rattle.rec_trace.specs.Drawn.{Drawn}

-- the arrow of this number starts, or finishes, for a test
pub data ArrowEnd : Type 0 where
  Starts : (test : OwnedTestInstanceId) (flow : ℕ) → ArrowEnd
  Finishes : (test : OwnedTestInstanceId) (flow : ℕ) → ArrowEnd

abbrev pub arrow_end : Drawn → List ArrowEnd
arrow_end (ArrowStarts test row at flow) = Starts test flow ∷ []
arrow_end (ArrowFinishes test row at flow) = Finishes test flow ∷ []
arrow_end _ = []

-- the starts and finishes of arrows, in order
abbrev pub arrow_ends : List Drawn → List ArrowEnd
arrow_ends drawn = flat_map arrow_end drawn

-- Each number starts at most once. Each finish has a start of its number before it, for the same
-- test, and no finish of its number before it
pub record ArrowsPair (ends : List ArrowEnd) : Type 0 where
  pub starts_once : (before after : List ArrowEnd) (test other : OwnedTestInstanceId) (flow : ℕ)
      → ends ≡ before ++ Starts test flow ∷ after → Has before (Starts other flow) → ⊥
  pub has_start : (before after : List ArrowEnd) (test : OwnedTestInstanceId) (flow : ℕ)
      → ends ≡ before ++ Finishes test flow ∷ after → Has before (Starts test flow)
  pub finishes_once : (before after : List ArrowEnd) (test other : OwnedTestInstanceId) (flow : ℕ)
      → ends ≡ before ++ Finishes test flow ∷ after → Has before (Finishes other flow) → ⊥

-- ---- the ends of arrows of an event

-- an attempt that starts as a retry finishes the pending arrow of its test
abbrev pub core_ends : (OwnedTestInstanceId → Option ℕ) → CoreEventKind → List ArrowEnd
core_ends arrow
    (TestRetryStarted stress_index test slot_assignment retry_data running command_line) =
    option_to_list (option_map (Finishes test) (arrow test))
core_ends arrow _ = []

-- a failed attempt starts an arrow
abbrev pub output_ends : List Span → ℕ → PlainOutputKind → List ArrowEnd
output_ends spans flow
    (SetupScriptFinished stress index total script program args no_capture status) = []
output_ends spans flow (TestAttemptFailedWillRetry stress test status delay failure running) =
    map (λ s. Starts test flow) (of_key (keys.Test test) spans)
output_ends spans flow (TestFinished stress test success failure store_success store_failure flaky
    statuses current_stats running) = []

-- the starts and finishes of an event, where these spans are open, this flow number is the next and
-- these arrows are pending
abbrev pub event_ends : List Span → ℕ → (OwnedTestInstanceId → Option ℕ) → PlainKind → List ArrowEnd
event_ends spans flow arrow (Core kind) = core_ends arrow kind
event_ends spans flow arrow (Output kind) = output_ends spans flow kind
