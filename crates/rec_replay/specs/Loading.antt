-- What is loaded of an event's outputs.
use Rattle.std.specs.Option.{option_or}
use Rattle.std.specs.Prelude.{◌≡◌, ℕ, ◌<◌, List, [], ◌∷◌, ◌++◌, length, Option}
use Rattle.std.specs.Prelude.{Some, None, Result, Ok, Err, IfErr, ⊤, option_map}
use Rattle.rec_container.specs.Container.{Entry}
use Rattle.rec_events.specs.declared.events.TestEventSummary.{TestEventSummary}
use Rattle.rec_events.specs.declared.output_names.OutputFileName.{OutputFileName}
use Rattle.rec_events.specs.declared.outputs.ChildOutputDescription.TheVariants as live
use Rattle.rec_events.specs.declared.outputs.ChildOutputDescription.{ChildOutputDescription}
use Rattle.rec_events.specs.declared.outputs.ZipStoreOutput.TheVariants.{Empty, Full, Truncated}
use Rattle.rec_events.specs.declared.outputs.ZipStoreOutput.{ZipStoreOutput}
use Rattle.rec_events.specs.declared.outputs.ZipStoreOutputDescription.TheVariants as stored
use Rattle.rec_events.specs.declared.outputs.ZipStoreOutputDescription.{ZipStoreOutputDescription}
use Rattle.rec_events.specs.EventMaps.{of_event}
use Rattle.rec_events.specs.OutputNames.{file_name_text}
use Rattle.rec_store.specs.declared.read_error.RecordReadError.TheVariants.{OutOfMemory}
use Rattle.rec_store.specs.declared.read_error.RecordReadError.{RecordReadError}
use Rattle.rec_store.specs.EventOutputs.{Recorded}
use Rattle.rec_store.specs.Kept.{bytes_under}
use Rattle.rec_store.specs.Parts.{output_part}
use Rattle.rec_store.specs.Readers.{Denies, DiskCause, Keeps}
use Rattle.rec_replay.specs.declared.output_load.LoadOutput.TheVariants.{Load, Skip}
use Rattle.rec_replay.specs.declared.output_load.LoadOutput.{LoadOutput}

-- the names that are read, in the order of the event's outputs
abbrev pub output_names : ZipStoreOutput → List OutputFileName
output_names Empty = []
output_names (Full name) = name ∷ []
output_names (Truncated name size) = name ∷ []

abbrev pub captured_names : Option ZipStoreOutput → List OutputFileName
captured_names None = []
captured_names (Some output) = output_names output

abbrev pub description_names : LoadOutput → ZipStoreOutputDescription → List OutputFileName
description_names Load (stored.Split out err) = captured_names out ++ captured_names err
description_names Load (stored.Combined both) = output_names both
description_names Skip outputs = []

abbrev pub event_names : LoadOutput → Recorded TestEventSummary → List OutputFileName
event_names load e = of_event (description_names load) e

-- what the entries have under these names
abbrev pub output_loaded : List Entry → ZipStoreOutput → List ℕ
output_loaded es Empty = []
output_loaded es (Full name) = bytes_under es name
output_loaded es (Truncated name size) = bytes_under es name

abbrev pub description_loaded : LoadOutput → List Entry → ZipStoreOutputDescription
    → ChildOutputDescription
description_loaded Load es (stored.Split out err) =
    live.Split (option_map (output_loaded es) out) (option_map (output_loaded es) err)
description_loaded Load es (stored.Combined both) = live.Combined (output_loaded es both)
description_loaded Skip es outputs = live.NotLoaded

-- why a part isn't there
abbrev pub refusal_of : {T : Type 0} → Result T RecordReadError → Option RecordReadError
refusal_of (Ok x) = None
refusal_of (Err e) = Some e

-- why the output of a name isn't read
abbrev pub name_refusal : List Entry → ℕ → OutputFileName → Option RecordReadError
name_refusal es limit name = refusal_of (output_part (file_name_text name) es limit)

-- why one of these outputs isn't read: the refusal of the first that is refused
abbrev pub first_refusal : List Entry → ℕ → List OutputFileName → Option RecordReadError
first_refusal es limit [] = None
first_refusal es limit (name ∷ names) =
    option_or (name_refusal es limit name) (first_refusal es limit names)

-- this refusal, or that it was done
abbrev pub or_done : Option RecordReadError → Result ⊤ RecordReadError
or_done None = Ok tt
or_done (Some e) = Err e

-- x was made and nothing is refused; or this is refused, or the disk failed, or memory ran out
abbrev pub LoadsAs : {T : Type 0} → Option RecordReadError → T → Result T RecordReadError → Type 0
LoadsAs refusal x (Ok y) = (refusal ≡ None) × (y ≡ x)
LoadsAs refusal x (Err e) = Denies (or_done refusal) e

-- the outputs of these names were read, and x is what entries make of them;
-- of a reader that means this before and after
pub record Loads {T : Type 0} (limit limit_now failures failures_now : ℕ)
    (holds holds_now : List Entry → Type 0) (names : List OutputFileName) (x : List Entry → T)
    (result : Result T RecordReadError) : Type 0 where
  pub answer : (es : List Entry) → (0 < length names → holds es)
      → LoadsAs (first_refusal es limit names) (x es) result
  pub same : Keeps limit limit_now holds holds_now
  pub cause : DiskCause failures failures_now result
  pub named : length names ≡ 0 → IfErr result (λ e. e ≡ OutOfMemory)
