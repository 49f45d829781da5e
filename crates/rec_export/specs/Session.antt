-- The lines of a session: the head's, and those of events.
use Rattle.std.specs.Option.{option_or}
use Rattle.std.specs.Prelude.{ℕ, List, [], ◌∷◌, filter_map, Option}
use Rattle.std.specs.Prelude.{Some, None, option_map, if◌then◌else◌}
use Rattle.rec_container.specs.Container.{Entry}
use Rattle.rec_codec.specs.Event.{LiveEvent, live_event, live_event_of}
use Rattle.rec_codec.specs.Lines.{NumberedLine, lines, numbered, text_of, is_blank}
use Rattle.rec_store.specs.Clashes.{clash, with_entries}
use Rattle.rec_store.specs.EventOutputs.{event_entries}
use Rattle.rec_errors.specs.declared.export_error.RecordExportError.TheVariants.{
  ReadRunLog,
  ParseEvent,
  NameCollision,
}
use Rattle.rec_errors.specs.declared.export_error.RecordExportError.{RecordExportError}

-- the lines of a session, numbered from 1
abbrev pub session_lines : List ℕ → List NumberedLine
session_lines session = numbered 1 (lines session)

-- the first line, where it is a text
abbrev pub head_text : List NumberedLine → Option (List ℕ)
head_text [] = None
head_text (line ∷ lines) = text_of line.bytes

-- the lines after the first
abbrev pub event_lines : List NumberedLine → List NumberedLine
event_lines [] = []
event_lines (line ∷ lines) = lines

-- the event of a line, if it has one
abbrev pub event_at : NumberedLine → Option LiveEvent
event_at line = live_event (text_of line.bytes)

-- the events of lines
abbrev pub events_of : List NumberedLine → List LiveEvent
events_of lines = filter_map event_at lines

-- outputs are numbered by their bytes, and cut at m bytes
module _ (number : List ℕ → ℕ) (m : ℕ) where
  -- the outputs of a line's event
  abbrev pub outputs_at : Option LiveEvent → List Entry
  outputs_at None = []
  outputs_at (Some event) = event_entries number m event

  -- why a text that isn't blank is refused at a line, if it is: it is no event, or an output
  -- clashes with those stored before
  abbrev pub event_refusal : List Entry → ℕ → Option LiveEvent → Option RecordExportError
  event_refusal stored n None = Some (ParseEvent n)
  event_refusal stored n (Some event) =
      option_map NameCollision (clash stored (event_entries number m event))

  -- why a text at a line is refused, if it is; no text is a line that isn't UTF-8
  abbrev pub text_refusal : List Entry → ℕ → Option (List ℕ) → Option RecordExportError
  text_refusal stored n None = Some (ReadRunLog n)
  text_refusal stored n (Some text) =
      if is_blank text then None else event_refusal stored n (live_event_of text)

  -- why a line after the first is refused, if it is
  abbrev pub line_refusal : List Entry → NumberedLine → Option RecordExportError
  line_refusal stored line = text_refusal stored line.number (text_of line.bytes)

  -- the first refusal among lines, where these outputs were stored before
  abbrev pub lines_refusal : List Entry → List NumberedLine → Option RecordExportError
  lines_refusal stored [] = None
  lines_refusal stored (line ∷ lines) =
      option_or (line_refusal stored line)
      (lines_refusal (with_entries stored (outputs_at (event_at line))) lines)
