-- The text of a generated session.
use Rattle.std.specs.List.{flat_map}
use Rattle.std.specs.Prelude.{ℕ, List, [], ◌∷◌, ◌++◌}
use Rattle.serde_json.specs.Written.{compact_text}
use Rattle.rec_format.specs.HeadForms.{head_value}
use Rattle.rec_codec.specs.Event.{LiveEvent}
use Rattle.rec_codec.specs.EventForms.{event_value}
use Rattle.rec_codec.specs.Live.{live_value}
use Rattle.rec_sample.specs.Events.{sample_events}
use Rattle.rec_sample.specs.Head.{sample_head}

-- the line of the head
unfoldable pub head_line : ℕ → List ℕ
head_line n = compact_text (head_value (sample_head n)) ++ 10 ∷ []

-- the text of an event, and its line
unfoldable pub event_text : LiveEvent → List ℕ
event_text e = compact_text (event_value live_value e)

abbrev pub event_line : LiveEvent → List ℕ
event_line e = event_text e ++ 10 ∷ []

abbrev pub event_lines : List LiveEvent → List ℕ
event_lines events = flat_map event_line events

-- the session of n tests
abbrev pub sample_session : ℕ → List ℕ
sample_session n = head_line n ++ event_lines (sample_events n)
