-- Why a recording that goes on ends before its session does.
use Rattle.std.specs.Prelude.{◌≡◌, ℕ, ◌^◌, ◌<◌, ◌≤◌, List, [], length, Option, Some, None, ◌⊎◌}
use Rattle.rec_container.specs.Container.{spell}
use Rattle.rec_format.specs.declared.head.SessionHead.{SessionHead}
use Rattle.rec_codec.specs.Event.{LiveEvent}
use Rattle.rec_codec.specs.Lines.{NumberedLine}
use Rattle.rec_store.specs.Bundle.{run_log, run_store}
use Rattle.rec_errors.specs.declared.export_error.RecordExportError.TheVariants.{
  CountOutOfRange,
  OutOfMemory,
  ParseHead,
  SessionTooLarge,
  SourceFault,
}
use Rattle.rec_errors.specs.declared.export_error.RecordExportError.{RecordExportError}
use Rattle.rec_export.specs.Bundle.{session_head}
use Rattle.rec_export.specs.Session.{event_lines, lines_refusal, session_lines}
use Rattle.rec_live_recording.specs.declared.errors.LiveError.TheVariants.{
  LogFault,
  ManifestFault,
  OutFault,
  Refused,
  StoreFault,
}
use Rattle.rec_live_recording.specs.declared.errors.LiveError.{LiveError}
use Rattle.rec_live_recording.specs.Session.{events_after_head}

-- what an error comes of: what is known where each sink failed, and of a refusal
module _ (manifest store log out : Type 0) (refused : RecordExportError → Type 0) where
  abbrev pub ComesOf : LiveError → Type 0
  ComesOf ManifestFault = manifest
  ComesOf StoreFault = store
  ComesOf LogFault = log
  ComesOf OutFault = out
  ComesOf (Refused e) = refused e

-- a line isn't recorded: by its refusal, as log or store would get too long, or as memory ran out
abbrev pub IsLineRefused : Option RecordExportError → Type 0 → RecordExportError → Type 0
IsLineRefused refusal overflows e =
    (refusal ≡ Some e) ⊎ ((e ≡ CountOutOfRange None) × overflows) ⊎ (e ≡ OutOfMemory)

-- Lines of a source that gives so many bytes in all aren't recorded to their end: as the source
-- failed, as it gives more than its limit, or as one of them isn't
abbrev pub IsRefused : Type 0 → ℕ → ℕ → Option RecordExportError → Type 0 → RecordExportError
    → Type 0
IsRefused failed limit total refusal overflows e =
    ((e ≡ SourceFault) × failed) ⊎ ((e ≡ SessionTooLarge limit) × (limit < total))
    ⊎ IsLineRefused refusal overflows e

-- why a session isn't begun, if it isn't: its first line is no head
abbrev pub head_refusal : Option SessionHead → Option RecordExportError
head_refusal None = Some ParseHead
head_refusal (Some head) = None

-- outputs are numbered by their bytes, and cut at m bytes
module _ (number : List ℕ → ℕ) (m : ℕ) where
  -- log or store of a run would have 2^64 bytes or more
  abbrev pub Overflows : SessionHead → List LiveEvent → Type 0
  Overflows head events =
      (2 ^ 64 ≤ length (run_log number m events))
      ⊎ (2 ^ 64 ≤ length (spell (run_store number m head events)))

  -- a session has a head, and log or store would have 2^64 bytes or more of its head alone
  abbrev pub HeadOverflows : List ℕ → Type 0
  HeadOverflows session =
      (head : SessionHead) × (session_head session ≡ Some head) × Overflows head []

  -- or of all its events
  abbrev pub SessionOverflows : List ℕ → Type 0
  SessionOverflows session =
      (head : SessionHead) × (session_head session ≡ Some head)
      × Overflows head (events_after_head session)

  -- why lines are refused after a head, if they are
  abbrev pub refusal_after : Option SessionHead → List NumberedLine → Option RecordExportError
  refusal_after None lines = Some ParseHead
  refusal_after (Some head) lines = lines_refusal number m [] lines

  -- Why a session isn't recorded whole, if it isn't: its first line is no head; or the first of the
  -- lines after it that is no event, or an output of whose event clashes with one before
  abbrev pub recording_refusal : List ℕ → Option RecordExportError
  recording_refusal session = refusal_after (session_head session)
      (event_lines (session_lines session))

  -- nothing in a session refuses it, and what is recorded of it has fewer than 2^64 bytes
  pub record IsRecordable (session : List ℕ) : Type 0 where
    pub valid : recording_refusal session ≡ None
    pub fits : ¬ SessionOverflows session
