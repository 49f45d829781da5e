-- What a recorder has accepted, and what is left of it where it is stopped.
use Rattle.std.specs.List.{All, AllByRecursion}
use Rattle.std.specs.Prelude.{◌≡◌, ℕ, ◌==◌, List, [], ◌∷◌, ◌++◌, Bool, false, true, Option, Some}
use Rattle.std.specs.Prelude.{IsSomeAnd, IsTrue, is_some, Result, Ok, Err, ⊤, if◌then◌else◌}
use Rattle.std.specs.Str.{bytes_eq, is_utf8}
use Rattle.rec_container.specs.Container.{Entry, IsEntry, AreFrom, prefix, addition, content_of}
use Rattle.rec_container.specs.Taking.{TookPart}
use Rattle.rec_container.specs.WholePrefixes.{IsWholePrefix}
use Rattle.rec_forms.specs.Recording.{test_list_form, record_opts_form}
use Rattle.rec_forms.specs.TextForm.{bytes_form}
use Rattle.rec_format.specs.RerunForms.{rerun_info_form}
use Rattle.rec_format.specs.ScopeForms.{recorded_scope_form}
use Rattle.rec_codec.specs.Event.{LiveEvent, RecordedEvent, event_line, log_text, IsLogged}
use Rattle.rec_store.specs.Bundle.{events_recorded, run_log, run_outputs}
use Rattle.rec_store.specs.declared.error.RunStoreError.{RunStoreError}
use Rattle.rec_store.specs.Entries.{build_scope_path, rerun_info_path, test_list_path}
use Rattle.rec_store.specs.Entries.{cargo_metadata_path, record_opts_path}
use Rattle.rec_store.specs.Kept.{IsHeld}
use Rattle.rec_store.specs.Recording.{Recording}
use Rattle.rec_store.specs.RunParts.{part, maybe_part, text_part}

-- ---- the metadata of a run

-- test list, cargo's metadata and record options, which are stored together
abbrev pub meta_paths : List (List ℕ)
meta_paths = test_list_path ∷ cargo_metadata_path ∷ record_opts_path ∷ []

-- the metadata that each run has
abbrev pub required_paths : List (List ℕ)
required_paths = build_scope_path ∷ meta_paths

-- whether a content is read by the form of its path, where that is one of metadata
abbrev pub is_readable : List ℕ → List ℕ → Bool
is_readable path content =
    if bytes_eq path build_scope_path then is_some (bytes_form recorded_scope_form content)
    else if bytes_eq path rerun_info_path then is_some (bytes_form rerun_info_form content)
    else if bytes_eq path test_list_path then is_some (bytes_form test_list_form content)
    else if bytes_eq path cargo_metadata_path then is_utf8 content
    else if bytes_eq path record_opts_path then is_some (bytes_form record_opts_form content)
    else true

-- an entry of metadata is read by its form
abbrev pub IsReadable : Entry → Type 0
IsReadable e = IsTrue (is_readable e.name e.content)

-- each part of the metadata stands among the entries and is read by its form;
-- rerun information may be missing
pub record HasMetadata (es : List Entry) : Type 0 where
  pub build_scope : IsTrue (is_some (part recorded_scope_form es build_scope_path))
  pub rerun_info : IsTrue (is_some (maybe_part rerun_info_form (content_of es rerun_info_path)))
  pub test_list : IsTrue (is_some (part test_list_form es test_list_path))
  pub cargo_metadata : IsTrue (is_some (text_part es cargo_metadata_path))
  pub record_opts : IsTrue (is_some (part record_opts_form es record_opts_path))

-- ---- what is left

-- no line ends in these bytes
abbrev pub IsUnended : List ℕ → Type 0
IsUnended bytes = All (λ b. (b == 10) ≡ false) bytes

-- outputs are numbered by their bytes, and cut at m bytes
module _ (number : List ℕ → ℕ) (m : ℕ) where
  -- log and store are what is left of a recording that had accepted these events, and was stopped
  -- then or in the middle of a write: the lines of the events and perhaps bytes after them in which
  -- no line ends, and entries with the metadata and each output of the events
  pub record IsStopped (events : List LiveEvent) (log store : List ℕ) : Type 0 where
    pub entries : List Entry
    pub prefix : IsWholePrefix store entries
    pub metadata : HasMetadata entries
    pub outputs : AllByRecursion (IsHeld entries) (run_outputs number m events)
    pub rest : List ℕ
    pub log_is : log ≡ run_log number m events ++ rest
    pub unended : IsUnended rest
    pub logged : AllByRecursion IsLogged (events_recorded number m events)

  -- the same of what the sinks of log and store tell, which both tell their bytes
  abbrev pub AreStopped : List LiveEvent → Option (List ℕ) → Option (List ℕ) → Type 0
  AreStopped events log store = IsSomeAnd log (λ l. IsSomeAnd store (λ s. IsStopped events l s))

-- ---- what was accepted

-- a sink took what the entries are written as; where it failed, then a part of one more
abbrev pub TookEntries : Bool → List Entry → Option (List ℕ) → Type 0
TookEntries false es now = now ≡ Some (prefix es)
TookEntries true es now = (e : Entry) × IsEntry e × TookPart (Some (prefix es)) now (addition es e)

-- a sink took the lines of the events; where it failed, then a part of one more
abbrev pub TookLines : Bool → List RecordedEvent → Option (List ℕ) → Type 0
TookLines false events now = now ≡ Some (log_text events)
TookLines true events now =
    (e : RecordedEvent) × TookPart (Some (log_text events)) now (event_line e)

-- an event that was accepted stands after the others; one that was refused changes nothing of them
abbrev pub events_after : List LiveEvent → LiveEvent → Result ⊤ RunStoreError → List LiveEvent
events_after events event (Ok done) = events ++ event ∷ []
events_after events event (Err e) = events

module _ {S L N : Type 0} (taken : S → Option (List ℕ)) (log_taken : L → Option (List ℕ))
    (number : N → List ℕ → ℕ) where
  -- a recorder has accepted exactly these events since its sinks were empty, and what they need
  -- stands in its log and its store
  pub record HasAccepted (events : List LiveEvent) (r : Recording S L N) : Type 0 where
    pub store : TookEntries r.store.failed r.store.entries (taken r.store.sink)
    pub log : TookLines r.log_failed (events_recorded (number r.namer) r.max_output events)
        (log_taken r.log)
    pub distinct : AreFrom [] r.store.entries
    pub readable : AllByRecursion IsReadable r.store.entries
    pub outputs : AllByRecursion (IsHeld r.store.entries)
        (run_outputs (number r.namer) r.max_output events)
    pub logged : AllByRecursion IsLogged (events_recorded (number r.namer) r.max_output events)

  -- what was accepted before a call is what was accepted after it
  abbrev pub KeepsAccepted : Recording S L N → Recording S L N → Type 0
  KeepsAccepted old new =
      (events : List LiveEvent) → HasAccepted events old → HasAccepted events new

  -- an event was accepted after those before, or was refused and leaves them as they were
  abbrev pub AcceptsEvent : Recording S L N → Recording S L N → LiveEvent → Result ⊤ RunStoreError
      → Type 0
  AcceptsEvent old new event result =
      (events : List LiveEvent) → HasAccepted events old
      → HasAccepted (events_after events event result) new
