-- What lines give where memory suffices: an item or a fault a line, the items before the first line
-- that fails, and its fault.
use Rattle.std.specs.Prelude.{◌≡◌, ℕ, List, [], ◌∷◌, filter_map, Option}
use Rattle.std.specs.Prelude.{Some, None, Result, Ok, Err, if◌then◌else◌}
use Rattle.serde_json.specs.Data.{Data}
use Rattle.rec_forms.specs.Outputs.{stored_outputs_form}
use Rattle.rec_forms.specs.TextForm.{text_form}
use Rattle.rec_codec.specs.declared.line_events.LineError.TheVariants.{ReadRunLog, ParseEvent}
use Rattle.rec_codec.specs.declared.line_events.LineError.{LineError}
use Rattle.rec_codec.specs.Event.{RecordedEvent}
use Rattle.rec_codec.specs.EventForms.{event_form}
use Rattle.rec_codec.specs.Lines.{NumberedLine, text_of, is_blank}

-- ---- items

-- the item of the line n, or that its text stands for none
abbrev pub item_or_fault : {T : Type 0} → ℕ → Option T → Result T LineError
item_or_fault n None = Err (ParseEvent n)
item_or_fault n (Some x) = Ok x

module _ {T : Type 0} (form : Data → Option T) where
  -- what the text of the line n gives: nothing where it is blank;
  -- no text is a line that isn't UTF-8
  abbrev pub text_item : ℕ → Option (List ℕ) → Option (Result T LineError)
  text_item n None = Some (Err (ReadRunLog n))
  text_item n (Some text) =
      if is_blank text then None else Some (item_or_fault n (text_form form text))

  abbrev pub line_item : NumberedLine → Option (Result T LineError)
  line_item line = text_item line.number (text_of line.bytes)

  -- what lines give, one after the other
  abbrev pub line_items : List NumberedLine → List (Result T LineError)
  line_items lines = filter_map line_item lines

-- ---- up to the first fault

-- what stands before the first fault
abbrev pub before_fault : {T E : Type 0} → List (Result T E) → List T
before_fault [] = []
before_fault (Ok x ∷ items) = x ∷ before_fault items
before_fault (Err e ∷ items) = []

-- the first fault, if there is one
abbrev pub first_fault : {T E : Type 0} → List (Result T E) → Option E
first_fault [] = None
first_fault (Ok x ∷ items) = first_fault items
first_fault (Err e ∷ items) = Some e

-- the items of lines before the first fault are these, and the fault is this, if there is one
abbrev pub GivesUpTo : {T : Type 0} → (Data → Option T) → List NumberedLine → List T
    → Option LineError → Type 0
GivesUpTo form lines xs fault =
    (before_fault (line_items form lines) ≡ xs) × (first_fault (line_items form lines) ≡ fault)

-- ---- logs

-- what the lines of a log give
unfoldable pub log_items : List NumberedLine → List (Result RecordedEvent LineError)
log_items lines = line_items (event_form stored_outputs_form) lines

-- the events of a log before the first line that fails
abbrev pub events_before_fault : List NumberedLine → List RecordedEvent
events_before_fault lines = before_fault (log_items lines)

-- why the first line that fails gives no event, if a line fails
abbrev pub first_line_fault : List NumberedLine → Option LineError
first_line_fault lines = first_fault (log_items lines)
