-- The events of a session and of a log.
use Rattle.std.specs.List.{flat_map}
use Rattle.std.specs.Prelude.{◌≡◌, ℕ, List, [], ◌∷◌, ◌++◌, Option, Some}
use Rattle.std.specs.Prelude.{None, IsTrue, if◌then◌else◌, option_map}
use Rattle.std.specs.Str.{is_utf8}
use Rattle.serde_json.specs.Written.{compact_text}
use Rattle.rec_events.specs.declared.events.TestEventSummary.{TestEventSummary}
use Rattle.rec_events.specs.declared.outputs.ChildOutputDescription.{ChildOutputDescription}
use Rattle.rec_events.specs.declared.outputs.LiveSpec.{LiveSpec}
use Rattle.rec_events.specs.declared.outputs.RecordingSpec.{RecordingSpec}
use Rattle.rec_events.specs.declared.outputs.ZipStoreOutputDescription.{ZipStoreOutputDescription}
use Rattle.rec_forms.specs.Outputs.{stored_outputs_value, stored_outputs_form}
use Rattle.rec_forms.specs.TextForm.{text_form}
use Rattle.rec_codec.specs.EventForms.{event_value, event_form}
use Rattle.rec_codec.specs.Lines.{text_of, is_blank}
use Rattle.rec_codec.specs.Live.{live_form}

-- an event with its outputs as they were captured
abbrev pub LiveEvent : Type 0
LiveEvent = TestEventSummary LiveSpec ChildOutputDescription

-- an event with the names of its outputs' files
abbrev pub RecordedEvent : Type 0
RecordedEvent = TestEventSummary RecordingSpec ZipStoreOutputDescription

-- ---- sessions

-- the event that a text of a session is read as
unfoldable pub live_event_of : List ℕ → Option LiveEvent
live_event_of text = text_form (event_form live_form) text

-- the event of a session's line: none where it isn't UTF-8, blank, or no event
abbrev pub live_event : Option (List ℕ) → Option LiveEvent
live_event None = None
live_event (Some text) = if is_blank text then None else live_event_of text

-- ---- logs

-- the text of an event in a log
unfoldable pub event_text : RecordedEvent → List ℕ
event_text e = compact_text (event_value stored_outputs_value e)

-- its line
abbrev pub event_line : RecordedEvent → List ℕ
event_line e = event_text e ++ 10 ∷ []

-- a log of these events
abbrev pub log_text : List RecordedEvent → List ℕ
log_text events = flat_map event_line events

-- the event that a text of a log is read as
unfoldable pub recorded_event_of : List ℕ → Option RecordedEvent
recorded_event_of text = text_form (event_form stored_outputs_form) text

-- a line of a log: nothing where it isn't UTF-8 or no event, no event where it is blank
abbrev pub line_event : Option (List ℕ) → Option (Option RecordedEvent)
line_event None = None
line_event (Some text) =
    if is_blank text then Some None else option_map Some (recorded_event_of text)

abbrev pub with_event : Option (Option RecordedEvent) → Option (List RecordedEvent)
    → Option (List RecordedEvent)
with_event None events = None
with_event (Some None) events = events
with_event (Some (Some e)) events = option_map (λ es. e ∷ es) events

-- the events of a log's lines, where each line is blank or an event
abbrev pub log_events : List (List ℕ) → Option (List RecordedEvent)
log_events [] = Some []
log_events (line ∷ lines) = with_event (line_event (text_of line)) (log_events lines)

-- the text of an event is read as it
pub record IsLogged (e : RecordedEvent) : Type 0 where
  pub utf8 : IsTrue (is_utf8 (event_text e))
  pub read : recorded_event_of (event_text e) ≡ Some e
