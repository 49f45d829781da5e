-- The texts of trace events.
use Rattle.std.specs.Option.{unwrap_or}
use Rattle.std.specs.Prelude.{◌≡◌, ℕ, List}
use Rattle.serde_json.specs.Data.{Data, null}
use Rattle.serde_json.specs.Read.{read}
use Rattle.serde_json.specs.Written.{compact_text}
use Rattle.rec_forms.specs.Writable.{IsWritable}

-- the event that a text is read as
unfoldable pub event_value : List ℕ → Data
event_value text = unwrap_or (read text) null

-- what args are, so that the text of their event is read as it was written
abbrev pub IsArgs : Data → Type 0
IsArgs d = IsWritable 8 d

-- a text is what is written in one line for the event that it is read as
pub record IsEventText (text : List ℕ) : Type 0 where
  pub written : text ≡ compact_text (event_value text)
  pub writable : IsWritable 9 (event_value text)
