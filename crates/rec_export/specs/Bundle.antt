-- The bundle and the trace of a session, and why a session has none.
use Rattle.std.specs.Option.{option_or}
use Rattle.std.specs.Prelude.{◌≡◌, ℕ, ◌^◌, List, [], ◌∷◌, length, map, Option}
use Rattle.std.specs.Prelude.{Some, None, nat_lt, if◌then◌else◌, option_and_then}
use Rattle.rec_container.specs.Writing.{entry_named}
use Rattle.rec_forms.specs.TextForm.{bytes_form}
use Rattle.rec_format.specs.declared.head.SessionHead.{SessionHead}
use Rattle.rec_format.specs.HeadForms.{head_form}
use Rattle.rec_codec.specs.Event.{LiveEvent}
use Rattle.rec_codec.specs.Lines.{NumberedLine}
use Rattle.rec_store.specs.Bundle.{manifest_text, run_bundle, run_log, run_store}
use Rattle.rec_store.specs.Entries.{log_name, manifest_name}
use Rattle.rec_store.specs.Reading.{IsReading, recorded}
use Rattle.rec_spans.specs.Plain.{plain}
use Rattle.rec_trace.specs.PrintedTimeline.{PrintsTimeline}
use Rattle.rec_errors.specs.declared.export_error.RecordExportError.TheVariants.{
  ParseHead,
  CountOutOfRange,
}
use Rattle.rec_errors.specs.declared.export_error.RecordExportError.{RecordExportError}
use Rattle.rec_export.specs.declared.settings.Settings.{Settings}
use Rattle.rec_export.specs.Session.{session_lines, head_text, event_lines}
use Rattle.rec_export.specs.Session.{lines_refusal, events_of}
use Rattle.rec_export.specs.SessionTraces.{run_trace, trace_refusal}
use Rattle.rec_export.specs.Sizes.{entries_refusal}
use Rattle.rec_export.specs.Timelines.{DrawsTimeline}

-- the head that a line's text is read as
abbrev pub head_in : Option (List ℕ) → Option SessionHead
head_in text = option_and_then (bytes_form head_form) text

-- the head of a session, where it has one
abbrev pub session_head : List ℕ → Option SessionHead
session_head session = head_in (head_text (session_lines session))

-- the events of a session
unfoldable pub session_events : List ℕ → List LiveEvent
session_events session = events_of (event_lines (session_lines session))

module _ (number : List ℕ → ℕ) (settings : Settings) where
  -- the sizes and the number of entries are below the length of the bundle, which has to be a u64
  abbrev pub count_refusal : SessionHead → List LiveEvent → Option RecordExportError
  count_refusal head events =
      if nat_lt (length (run_bundle number settings.max_output head events)) (2 ^ 64) then None
      else Some (CountOutOfRange None)

  -- a reader with the limit takes the manifest, the log and each entry of the store
  abbrev pub size_refusal : SessionHead → List LiveEvent → Option RecordExportError
  size_refusal head events =
      entries_refusal settings.read_limit
      (entry_named manifest_name (manifest_text number settings.max_output head events)
      ∷ entry_named log_name (run_log number settings.max_output events)
      ∷ run_store number settings.max_output head events)

  -- why the sizes of a run are refused, if they are: the sum of all,
  -- then the first that is too large
  abbrev pub sizes_refusal : SessionHead → List LiveEvent → Option RecordExportError
  sizes_refusal head events = option_or (count_refusal head events) (size_refusal head events)

  -- why lines are refused after a head, if they are: the first failing line, then the sum of all
  -- sizes, then the first size, then the first event that has no trace
  abbrev pub refusal_after : Option SessionHead → List NumberedLine → Option RecordExportError
  refusal_after None lines = Some ParseHead
  refusal_after (Some head) lines =
      option_or (lines_refusal number settings.max_output [] lines)
      (option_or (count_refusal head (events_of lines))
      (option_or (size_refusal head (events_of lines)) (trace_refusal settings (events_of lines))))

  -- why a session is refused that was read whole, if it is
  unfoldable pub session_refusal : List ℕ → Option RecordExportError
  session_refusal session =
      refusal_after (session_head session) (event_lines (session_lines session))

  -- The session is valid, this is its bundle, and the bundle is read as what was recorded of the
  -- session. This is the text of its trace, in which a viewer reads its timeline: begins and ends
  -- on every row take turns, and are the slices that the pauses leave, at their events' instants;
  -- and each arrow starts before it finishes
  pub record AreOf (session bundle trace : List ℕ) : Type 0 where
    pub head : SessionHead
    pub has_head : session_head session ≡ Some head
    pub valid : session_refusal session ≡ None
    pub spelled : bundle ≡ run_bundle number settings.max_output head (session_events session)
    pub reads : IsReading bundle (recorded number settings.max_output head (session_events session))
    pub traced : trace ≡ run_trace settings head (session_events session)
    pub drawn : DrawsTimeline head.nextest_version settings.group_by
        (map plain (session_events session))
    pub printed : PrintsTimeline head.nextest_version settings.group_by
        (map plain (session_events session)) trace
