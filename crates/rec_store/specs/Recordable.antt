-- Events that a log can hold, and runs whose bundle can be written.
use Rattle.std.specs.List.{AllByRecursion}
use Rattle.std.specs.Prelude.{ℕ, ◌<◌, ◌^◌, List, [], ◌∷◌, ◌++◌, length, Option, Some, None}
use Rattle.rec_events.specs.declared.outputs.ChildOutputDescription.TheVariants as live
use Rattle.rec_events.specs.declared.outputs.ChildOutputDescription.{ChildOutputDescription}
use Rattle.rec_events.specs.EventMaps.{of_event}
use Rattle.rec_codec.specs.Event.{LiveEvent}
use Rattle.rec_codec.specs.EventForms.{IsEvent}
use Rattle.rec_codec.specs.Live.{IsLive}

-- ---- the captured outputs of an event, in order

abbrev pub captured_outputs : Option (List ℕ) → List (List ℕ)
captured_outputs None = []
captured_outputs (Some b) = b ∷ []

abbrev pub description_outputs : ChildOutputDescription → List (List ℕ)
description_outputs (live.Split out err) = captured_outputs out ++ captured_outputs err
description_outputs (live.Combined both) = both ∷ []
description_outputs live.NotLoaded = []

abbrev pub event_outputs : LiveEvent → List (List ℕ)
event_outputs e = of_event description_outputs e

-- the length of an output is a u64
abbrev pub HasLength : List ℕ → Type 0
HasLength b = length b < 2 ^ 64

-- the event is well-formed, its outputs are loaded, and their lengths are u64
pub record IsRecordable (e : LiveEvent) : Type 0 where
  pub event : IsEvent IsLive e
  pub outputs : AllByRecursion HasLength (event_outputs e)
