-- What stands of a session whose head was recorded, and of one that was recorded whole.
use Rattle.std.specs.Io.KnownBytes.{Appends}
use Rattle.std.specs.Prelude.{◌≡◌, ℕ, List, [], Option, Some, None}
use Rattle.rec_container.specs.Container.{AreFrom, spell}
use Rattle.rec_format.specs.declared.head.SessionHead.{SessionHead}
use Rattle.rec_codec.specs.Event.{LiveEvent}
use Rattle.rec_store.specs.Bundle.{run_log, run_store}
use Rattle.rec_store.specs.Recording.{Recording}
use Rattle.rec_export.specs.Bundle.{session_head}
use Rattle.rec_export.specs.Recorded.{AreRecorded}
use Rattle.rec_live_recording.specs.Recorder.{HasRecorded}
use Rattle.rec_live_recording.specs.Refusals.{recording_refusal}
use Rattle.rec_live_recording.specs.Session.{begun_manifest, events_after_head}

-- a sink took exactly the manifest of the session's head
pub record HasManifest (session : List ℕ) (before now : Option (List ℕ)) : Type 0 where
  pub head : SessionHead
  pub has_head : session_head session ≡ Some head
  pub taken : Appends before now (begun_manifest head)

-- Manifest, log and store are those of the whole session: the log has exactly the lines of its
-- events, and the store, with its end, exactly the head's metadata and their outputs
pub record IsFinished (number : List ℕ → ℕ) (m : ℕ) (session : List ℕ)
    (before manifest log store : Option (List ℕ)) : Type 0 where
  pub head : SessionHead
  pub has_head : session_head session ≡ Some head
  pub valid : recording_refusal number m session ≡ None
  pub manifest_taken : Appends before manifest (begun_manifest head)
  pub logged : log ≡ Some (run_log number m (events_after_head session))
  pub stored : store ≡ Some (spell (run_store number m head (events_after_head session)))
  pub sound : AreFrom [] (run_store number m head (events_after_head session))
  pub recorded : AreRecorded number m (events_after_head session)

module _ {S L N : Type 0} (number : N → List ℕ → ℕ) (namer : N) (m : ℕ) where
  -- the head of a session was recorded, and these events
  pub record HasRun (session : List ℕ) (events : List LiveEvent) (before manifest : Option (List ℕ))
      (r : Recording S L N) : Type 0 where
    pub head : SessionHead
    pub has_head : session_head session ≡ Some head
    pub manifest_taken : Appends before manifest (begun_manifest head)
    pub recorded : HasRecorded number namer m head events r
