-- What a target of trace events got.
use Rattle.std.specs.Prelude.{◌≡◌, ◌<◌, ℕ, List, ◌++◌, length, take, map}
use Rattle.serde_json.specs.Data.{Data}
use Rattle.rec_trace_events.specs.EventTexts.{event_value}
use Rattle.rec_trace.specs.declared.vec_target.VecTarget.{VecTarget}

-- a target in memory got these events
abbrev pub AreIn : VecTarget → List Data → Type 0
AreIn t events = map event_value t.events.items ≡ events

module _ {T : Type 0} (holds : T → List Data → Type 0) where
  -- after what it had, these events stand now
  abbrev pub Takes : T → T → List Data → Type 0
  Takes old new events = (before : List Data) → holds old before → holds new (before ++ events)

  -- the first of these events stand there, and not all
  pub record TakesPart (old new : T) (events : List Data) : Type 0 where
    pub count : ℕ
    pub short : count < length events
    pub taken : Takes old new (take count events)

  -- it has what it had
  abbrev pub Stays : T → T → Type 0
  Stays old new = (before : List Data) → holds old before → holds new before
