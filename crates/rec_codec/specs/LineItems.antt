-- What the lines of a log give, one after the other.
use Rattle.std.specs.Prelude.{◌≡◌, List, [], ◌∷◌, Option, Some, None, Result, Ok, Err, MatchBool}
use Rattle.serde_json.specs.Data.{Data}
use Rattle.rec_codec.specs.declared.line_events.LineError.TheVariants.{
  ReadRunLog,
  ParseEvent,
  OutOfMemory,
}
use Rattle.rec_codec.specs.declared.line_events.LineError.{LineError}
use Rattle.rec_codec.specs.LineEvents.{blank, AnswersEvent}
use Rattle.rec_codec.specs.Lines.{NumberedLine, text_of}

-- what is left after a fault: nothing where memory was short, all others else
abbrev pub left_after_fault : LineError → List NumberedLine → List NumberedLine
left_after_fault (ReadRunLog n) rest = rest
left_after_fault (ParseEvent n) rest = rest
left_after_fault OutOfMemory rest = []

abbrev pub left_after : {T : Type 0} → Result T LineError → List NumberedLine → List NumberedLine
left_after (Ok x) rest = rest
left_after (Err e) rest = left_after_fault e rest

module _ {T : Type 0} (form : Data → Option T) where
  -- a line that isn't blank gives one item
  abbrev pub GivesItem : NumberedLine → List NumberedLine → Option (Result T LineError)
      → List NumberedLine → Type 0
  GivesItem line rest None left = ⊥
  GivesItem line rest (Some r) left =
      AnswersEvent form r line.number (text_of line.bytes) × (left ≡ left_after r rest)

  -- the first line that isn't blank gives the next item
  abbrev pub GivesNext : List NumberedLine → Option (Result T LineError) → List NumberedLine
      → Type 0
  GivesNext [] item left = (item ≡ None) × (left ≡ [])
  GivesNext (line ∷ rest) item left =
      MatchBool (blank (text_of line.bytes)) (GivesNext rest item left)
      (GivesItem line rest item left)
