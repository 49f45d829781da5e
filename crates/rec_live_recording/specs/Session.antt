-- The lines of a session that is read line by line.
use Rattle.std.specs.Prelude.{◌≡◌, ℕ, ◌+◌, List, [], ◌∷◌, filter_map, Option}
use Rattle.serde_json.specs.Written.{compact_text}
use Rattle.rec_format.specs.declared.head.SessionHead.{SessionHead}
use Rattle.rec_format.specs.RunForms.{manifest_value}
use Rattle.rec_format.specs.Runs.{manifest_of, recorded_info}
use Rattle.rec_format.specs.Sizes.{no_sizes}
use Rattle.rec_codec.specs.Event.{LiveEvent, live_event}
use Rattle.rec_codec.specs.Lines.{NumberedLine, lines, numbered, text_of}
use Rattle.rec_live_recording.specs.LineReading.{IsLeft, LineReading}

-- the event of a line, if it has one
abbrev pub event_of : List ℕ → Option LiveEvent
event_of line = live_event (text_of line)

-- the lines after the first
abbrev pub after_first_line : List (List ℕ) → List (List ℕ)
after_first_line [] = []
after_first_line (line ∷ lines) = lines

-- the lines of a text that follow so many others
abbrev pub lines_after : ℕ → List ℕ → List NumberedLine
lines_after n text = numbered (n + 1) (lines text)

-- the events of a text, and of a session, whose first line is the head
abbrev pub events_in : List ℕ → List LiveEvent
events_in text = filter_map event_of (lines text)

abbrev pub events_after_head : List ℕ → List LiveEvent
events_after_head session = filter_map event_of (after_first_line (lines session))

-- the lines after a text's first one are left
abbrev pub LeavesLines : {S : Type 0} → (S → Option (List ℕ)) → ℕ → List ℕ → LineReading S → Type 0
LeavesLines left total text r =
    (rest : List ℕ) × (after_first_line (lines text) ≡ lines rest) × IsLeft left total rest r

-- the manifest of a run whose sizes aren't known
abbrev pub begun_manifest : SessionHead → List ℕ
begun_manifest head = compact_text (manifest_value (manifest_of (recorded_info head no_sizes)))
