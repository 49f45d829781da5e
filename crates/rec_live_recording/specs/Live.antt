-- What a recording that goes on has told of its events, and what stands in its files.
use Rattle.std.specs.Io.KnownBytes.{Appends}
use Rattle.std.specs.Option.{option_to_list}
use Rattle.std.specs.Prelude.{◌≡◌, ℕ, ◌+◌, ◌<◌, ◌≤◌, List, ◌++◌, length}
use Rattle.std.specs.Prelude.{Option, Result, Ok, Err}
use Rattle.rec_codec.specs.Event.{LiveEvent}
use Rattle.rec_store.specs.Kept.{HavePaths}
use Rattle.rec_store.specs.Recording.{Recording}
use Rattle.rec_store.specs.Saved.{AreStopped, HasAccepted, required_paths}
use Rattle.rec_live_recording.specs.Acknowledgements.{Tells, count_lines}
use Rattle.rec_live_recording.specs.declared.errors.LiveError.{LiveError}

module _ {S L N O : Type 0} (taken : S → Option (List ℕ)) (log_taken : L → Option (List ℕ))
    (out_taken : O → Option (List ℕ)) (number : N → List ℕ → ℕ) where
  -- the metadata and these events were accepted, and each was acknowledged
  pub record Stands (before : Option (List ℕ)) (events : List LiveEvent) (r : Recording S L N)
      (o : O) : Type 0 where
    pub accepted : HasAccepted taken log_taken number events r
    pub metadata : HavePaths r.store.entries required_paths
    pub told : Appends before (out_taken o) (count_lines (length events + 1))

  -- so many lines of counts were taken. Where there are some, so many events and the metadata were
  -- accepted, and perhaps one event more; they are the first of all
  pub record Holds (before : Option (List ℕ)) (all : List LiveEvent) (r : Recording S L N)
      (o : O) : Type 0 where
    pub lines : ℕ
    pub told : Tells before (out_taken o) lines
    pub events : List LiveEvent
    pub later : List LiveEvent
    pub first : all ≡ events ++ later
    pub enough : lines ≤ length events + 1
    pub accepted : 0 < lines → HasAccepted taken log_taken number events r
    pub metadata : 0 < lines → HavePaths r.store.entries required_paths

  -- the event of a line, if it has one, was accepted after these and acknowledged; or it wasn't, or
  -- one of both, and these stand
  abbrev pub RecordsNext : Option (List ℕ) → List LiveEvent → Option LiveEvent → List LiveEvent
      → Result ℕ LiveError → Recording S L N → O → Type 0
  RecordsNext before events next later (Ok count) r o =
      Stands before (events ++ option_to_list next) r o
      × (count ≡ length (events ++ option_to_list next))
  RecordsNext before events next later (Err e) r o =
      Holds before ((events ++ option_to_list next) ++ later) r o

  -- all were accepted and acknowledged, or the first of them
  abbrev pub RecordsAll : Option (List ℕ) → List LiveEvent → Result ℕ LiveError → Recording S L N
      → O → Type 0
  RecordsAll before all (Ok count) r o = Stands before all r o × (count ≡ length all)
  RecordsAll before all (Err e) r o = Holds before all r o

-- The sink of the acknowledgements took so many lines of counts. Where there are some, log and
-- store hold so many events, and perhaps one more; they are the first of all
pub record Keeps (number : List ℕ → ℕ) (m : ℕ) (all : List LiveEvent)
    (before out log store : Option (List ℕ)) : Type 0 where
  pub lines : ℕ
  pub told : Tells before out lines
  pub events : List LiveEvent
  pub later : List LiveEvent
  pub first : all ≡ events ++ later
  pub enough : lines ≤ length events + 1
  pub held : 0 < lines → AreStopped number m events log store
