-- What becomes of an event that a builder is handed,
-- and of the target that it hands the trace events on to.
use Rattle.std.specs.Bool.{⊤}
use Rattle.std.specs.Prelude.{◌≡◌, ◌≤◌, ℕ, true, false, List, [], ◌∷◌, ◌++◌}
use Rattle.std.specs.Prelude.{None, Some, Result, Ok, Err}
use Rattle.semver.specs.Parse.{Parts}
use Rattle.serde_json.specs.Data.{Data}
use Rattle.rec_container.specs.Causes.{next_count}
use Rattle.rec_spans.specs.declared.errors.ChromeTraceError.TheVariants as errors
use Rattle.rec_spans.specs.declared.errors.ChromeTraceError.{ChromeTraceError}
use Rattle.rec_spans.specs.declared.settings.ChromeTraceGroupBy.{ChromeTraceGroupBy}
use Rattle.rec_spans.specs.History.{after, state_after}
use Rattle.rec_spans.specs.Kinds.{history}
use Rattle.rec_spans.specs.Plain.{PlainEvent}
use Rattle.rec_spans.specs.Refusals.{events_refusal}
use Rattle.rec_trace.specs.declared.build_error.TraceBuildError.TheVariants.{
  Failed,
  Refused,
  TargetFault,
  OutOfMemory,
}
use Rattle.rec_trace.specs.declared.build_error.TraceBuildError.{TraceBuildError}
use Rattle.rec_trace.specs.declared.builder.Handing.{Handing}
use Rattle.rec_trace.specs.declared.tracer.Tracer.{Tracer}
use Rattle.rec_trace.specs.Drawn.{all_events}
use Rattle.rec_trace.specs.Histories.{known_of}
use Rattle.rec_trace.specs.Standing.{StandsFor}
use Rattle.rec_trace.specs.Steps.{Advances, StaysSame}
use Rattle.rec_trace.specs.Table.{drawn}
use Rattle.rec_trace.specs.Targets.{Takes, TakesPart}

-- ---- errors

-- want of memory is no refusal
abbrev pub build_error : ChromeTraceError → TraceBuildError
build_error errors.OutOfMemory = OutOfMemory
build_error e = Refused e

-- neither want of memory nor a history that can't be read
abbrev pub IsOfEvent : ChromeTraceError → Type 0
IsOfEvent (errors.ReadError fault) = ⊥
IsOfEvent errors.OutOfMemory = ⊥
IsOfEvent e = ⊤

-- ---- events

-- the trace events that an event adds to those of the events before it
abbrev pub shown : Parts → ChromeTraceGroupBy → List PlainEvent → PlainEvent → List Data
shown version g events event =
    all_events
    (drawn version g (state_after (after [] (history g events))) (known_of g events) event)

-- what is kept beside the target stands for these events
abbrev pub HandsOn : ChromeTraceGroupBy → Parts → List PlainEvent → Handing → Type 0
HandsOn g version events h = StandsFor g version events h.tracer

-- With `Failed` the target failed at an earlier event, and with no other answer. With `TargetFault`
-- it fails now, and with no other. It has only changed with an accepted event or with `TargetFault`
module _ {T : Type 0} where
  abbrev pub Answers : Handing → T → Handing → T → Result ⊤ TraceBuildError → Type 0
  Answers old before new now (Ok u) = (old.failed ≡ false) × (new.failed ≡ false)
  Answers old before new now (Err Failed) =
      (old.failed ≡ true) × ((new.failed ≡ true) × (now ≡ before))
  Answers old before new now (Err (Refused e)) =
      (old.failed ≡ false) × ((new.failed ≡ false) × ((now ≡ before) × IsOfEvent e))
  Answers old before new now (Err TargetFault) = (old.failed ≡ false) × (new.failed ≡ true)
  Answers old before new now (Err OutOfMemory) =
      (old.failed ≡ false) × ((new.failed ≡ false) × (now ≡ before))

module _ {T : Type 0} (holds : T → List Data → Type 0) where
  -- An event is accepted, and its trace events stand after what the target had. Or it is not
  -- accepted, and the builder stands for the events before it: the target failed at an earlier one;
  -- the event is refused after those before it; it isn't refused, and the target fails at one of
  -- its trace events and has those before that one; or memory runs out
  abbrev pub Processes : ChromeTraceGroupBy → Parts → List PlainEvent → PlainEvent → T → Handing → T
      → Result ⊤ TraceBuildError → Type 0
  Processes g version events event before new now (Ok u) =
      HandsOn g version (events ++ event ∷ []) new
      × Takes holds before now (shown version g events event)
  Processes g version events event before new now (Err Failed) = HandsOn g version events new
  Processes g version events event before new now (Err (Refused e)) =
      HandsOn g version events new × (events_refusal g (events ++ event ∷ []) ≡ Some e)
  Processes g version events event before new now (Err TargetFault) =
      HandsOn g version events new × ((events_refusal g (events ++ event ∷ []) ≡ None)
      × TakesPart holds before now (shown version g events event))
  Processes g version events event before new now (Err OutOfMemory) = HandsOn g version events new

-- ---- one event

module _ {T : Type 0} (holds : T → List Data → Type 0) where
  -- what an event draws was taken, and the event is accepted after what was before; or it was taken
  -- in part, and the event is let go
  abbrev pub HandsOver : List Data → Tracer → PlainEvent → T → Handing → T
      → Result ⊤ TraceBuildError → Type 0
  HandsOver drawn before event target new now (Ok u) =
      Advances before event new.tracer × Takes holds target now drawn
  HandsOver drawn before event target new now (Err Failed) = ⊥
  HandsOver drawn before event target new now (Err (Refused e)) = ⊥
  HandsOver drawn before event target new now (Err TargetFault) =
      StaysSame before new.tracer × TakesPart holds target now drawn
  HandsOver drawn before event target new now (Err OutOfMemory) = ⊥

-- the target counted one fault with `TargetFault`, and none with any other answer
abbrev pub CausedBy : ℕ → ℕ → Result ⊤ TraceBuildError → Type 0
CausedBy before now (Ok u) = now ≡ before
CausedBy before now (Err Failed) = now ≡ before
CausedBy before now (Err (Refused e)) = now ≡ before
CausedBy before now (Err TargetFault) = now ≡ next_count before
CausedBy before now (Err OutOfMemory) = now ≡ before

pub record TargetCause (before now : ℕ) (result : Result ⊤ TraceBuildError) : Type 0 where
  pub later : before ≤ now
  pub caused : CausedBy before now result
