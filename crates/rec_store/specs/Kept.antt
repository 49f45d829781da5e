-- What is kept of an event's outputs: what a bundle is read as.
use Rattle.std.specs.List.{AllByRecursion}
use Rattle.std.specs.Prelude.{◌≡◌, ℕ, List, [], ◌∷◌, ◌++◌, length, nat_le, ◌==◌, Option, Some}
use Rattle.std.specs.Prelude.{None, IsTrue, is_some, map, option_map, unwrap_or, if◌then◌else◌}
use Rattle.rec_container.specs.Container.{Entry, content_of}
use Rattle.rec_events.specs.declared.events.TestEventSummary.{TestEventSummary}
use Rattle.rec_events.specs.declared.output_names.OutputFileName.{OutputFileName}
use Rattle.rec_events.specs.declared.outputs.ChildOutputDescription.TheVariants as live
use Rattle.rec_events.specs.declared.outputs.ChildOutputDescription.{ChildOutputDescription}
use Rattle.rec_events.specs.declared.outputs.RecordingSpec.{RecordingSpec}
use Rattle.rec_events.specs.declared.outputs.ZipStoreOutput.TheVariants.{Empty, Full, Truncated}
use Rattle.rec_events.specs.declared.outputs.ZipStoreOutput.{ZipStoreOutput}
use Rattle.rec_events.specs.declared.outputs.ZipStoreOutputDescription.TheVariants as stored
use Rattle.rec_events.specs.declared.outputs.ZipStoreOutputDescription.{ZipStoreOutputDescription}
use Rattle.rec_events.specs.EventMaps.{event_with, of_event}
use Rattle.rec_codec.specs.Event.{LiveEvent, RecordedEvent}
use Rattle.rec_store.specs.Cut.{cut}
use Rattle.rec_store.specs.OutputPaths.{output_path}

-- an output that is kept: one without bytes, the whole of it, or what a cut left of so many bytes
pub data KeptOutput : Type 0 where
  empty : KeptOutput
  full : List ℕ → KeptOutput
  truncated : List ℕ → ℕ → KeptOutput

-- the outputs of a process; one that was not captured is none
pub data KeptOutputs : Type 0 where
  split : Option KeptOutput → Option KeptOutput → KeptOutputs
  combined : KeptOutput → KeptOutputs

-- an event with what is kept of its outputs
abbrev pub KeptEvent : Type 0
KeptEvent = TestEventSummary RecordingSpec KeptOutputs

-- ---- what is kept at a limit of m bytes

module _ (m : ℕ) where
  abbrev pub kept : List ℕ → KeptOutput
  kept b =
      if length b == 0 then empty else if nat_le (length b) m then full b
      else truncated (cut b m) (length b)

  -- what isn't loaded is not recorded at all; the value says nothing
  abbrev pub outputs_kept : ChildOutputDescription → KeptOutputs
  outputs_kept (live.Split out err) = split (option_map kept out) (option_map kept err)
  outputs_kept (live.Combined both) = combined (kept both)
  outputs_kept live.NotLoaded = split None None

  abbrev pub event_kept : LiveEvent → KeptEvent
  event_kept e = event_with outputs_kept e

-- ---- what a store has under the names in an event

module _ (es : List Entry) where
  -- the bytes of the output of this name, where it stands in the store
  abbrev pub bytes_under : OutputFileName → List ℕ
  bytes_under name = unwrap_or (content_of es (output_path name)) []

  abbrev pub resolved : ZipStoreOutput → KeptOutput
  resolved Empty = empty
  resolved (Full name) = full (bytes_under name)
  resolved (Truncated name size) = truncated (bytes_under name) size

  abbrev pub outputs_resolved : ZipStoreOutputDescription → KeptOutputs
  outputs_resolved (stored.Split out err) =
      split (option_map resolved out) (option_map resolved err)
  outputs_resolved (stored.Combined both) = combined (resolved both)

  abbrev pub event_resolved : RecordedEvent → KeptEvent
  event_resolved e = event_with outputs_resolved e

-- what stands under the name of this entry is its content
abbrev pub IsHeld : List Entry → Entry → Type 0
IsHeld es e = content_of es e.name ≡ Some e.content

-- ---- the paths of the outputs that an event names

abbrev pub output_paths : ZipStoreOutput → List (List ℕ)
output_paths Empty = []
output_paths (Full name) = output_path name ∷ []
output_paths (Truncated name size) = output_path name ∷ []

abbrev pub captured_paths : Option ZipStoreOutput → List (List ℕ)
captured_paths None = []
captured_paths (Some output) = output_paths output

abbrev pub description_paths : ZipStoreOutputDescription → List (List ℕ)
description_paths (stored.Split out err) = captured_paths out ++ captured_paths err
description_paths (stored.Combined both) = output_paths both

abbrev pub event_paths : RecordedEvent → List (List ℕ)
event_paths e = of_event description_paths e

-- names of these paths were added to a list
abbrev pub AddsNames : List OutputFileName → List OutputFileName → List (List ℕ) → Type 0
AddsNames old new paths = map output_path new ≡ map output_path old ++ paths

-- each of these paths is that of an entry
abbrev pub HavePaths : List Entry → List (List ℕ) → Type 0
HavePaths es paths = AllByRecursion (λ path. IsTrue (is_some (content_of es path))) paths

-- each output that an event names stands among the entries
abbrev pub HasOutputs : List Entry → RecordedEvent → Type 0
HasOutputs es e = HavePaths es (event_paths e)
