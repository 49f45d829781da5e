-- What is read of a line of a log.
use Rattle.std.proofs.Common.{◌≡◌, ℕ, true, false, List, Option, Some, None}
use Rattle.std.proofs.Common.{option_map, Result, Ok, Err, refl, sym, ap, subst, ◌∙◌}
use Rattle.std.proofs.Common.{if◌then◌else◌, map, Vec, String, Global, string_bytes}
use Rattle.rec_forms.specs.Outputs.{stored_outputs_form}
use Rattle.rec_codec.specs.declared.line_events.LineError.TheVariants.{
  ReadRunLog,
  ParseEvent,
  OutOfMemory,
}
use Rattle.rec_codec.specs.declared.line_events.LineError.{LineError}
use Rattle.rec_codec.specs.Event.{RecordedEvent, line_event, recorded_event_of}
use Rattle.rec_codec.specs.EventForms.{event_form}
use Rattle.rec_codec.specs.LineEvents.{AnswersEvent, blank}
use Rattle.rec_codec.specs.Lines.{is_blank}
use Rattle.rec_store.specs.Kept.{event_paths}
use Rattle.rec_salvage.specs.declared.log_lines.LogLine.TheVariants.{Unsound, Blank, Event}
use Rattle.rec_salvage.specs.declared.log_lines.LogLine.{LogLine}
use Rattle.rec_salvage.specs.Gathering.{IsRead, IsReadItem}

-- a blank line has no event
pub blank_line : (text : Option (List ℕ)) → blank text ≡ true → line_event text ≡ Some None
blank_line None h = absurd cc
blank_line (Some text) h =
    ap (λ b. if b then Some None else option_map Some (recorded_event_of text)) h

not_blank : (text : List ℕ) (o : Option RecordedEvent) → is_blank text ≡ false
    → recorded_event_of text ≡ o → line_event (Some text) ≡ option_map Some o
not_blank text o h is =
    ap (λ b. if b then Some None else option_map Some (recorded_event_of text)) h
    ∙ ap (option_map Some) is

event_read : (e : RecordedEvent) (line : LogLine) → IsReadItem (Ok e) line
    → IsRead (Some (Some e)) line
event_read e Unsound h = h
event_read e Blank h = h
event_read e (Event paths) h = h

unsound_of_utf8 : (n : ℕ) (line : LogLine) → IsReadItem (Err (ReadRunLog n)) line → IsRead None line
unsound_of_utf8 n Unsound h = h
unsound_of_utf8 n Blank h = h
unsound_of_utf8 n (Event paths) h = h

unsound_of_parse : (n : ℕ) (line : LogLine) → IsReadItem (Err (ParseEvent n)) line
    → IsRead None line
unsound_of_parse n Unsound h = h
unsound_of_parse n Blank h = h
unsound_of_parse n (Event paths) h = h

nothing_read : {A : Type 0} (line : LogLine) → IsReadItem (Err OutOfMemory) line → A
nothing_read Unsound h = absurd h
nothing_read Blank h = absurd h
nothing_read (Event paths) h = absurd h

-- what is read of its item is read of a line that isn't blank
pub item_line : (item : Result RecordedEvent LineError) (number : ℕ) (text : Option (List ℕ))
    (line : LogLine)
    → blank text ≡ false → AnswersEvent (event_form stored_outputs_form) item number text
    → IsReadItem item line → IsRead (line_event text) line
unfolding recorded_event_of
item_line (Ok e) number None line h is read = absurd cc
item_line (Ok e) number (Some text) line h is read =
    subst (λ (o : Option (Option RecordedEvent)). IsRead o line)
    (sym (not_blank text (Some e) h is)) (event_read e line read)
item_line (Err (ReadRunLog n)) number None line h is read = unsound_of_utf8 n line read
item_line (Err (ReadRunLog n)) number (Some text) line h is read = absurd (let none = is.1 in cc)
item_line (Err (ParseEvent n)) number None line h is read = unsound_of_parse n line read
item_line (Err (ParseEvent n)) number (Some text) line h is read =
    subst (λ (o : Option (Option RecordedEvent)). IsRead o line) (sym (not_blank text None h is.2))
    (unsound_of_parse n line read)
item_line (Err OutOfMemory) number text line h is read = nothing_read line read

-- ---- and back

pub read_unsound : (o : Option (Option RecordedEvent)) → IsRead o Unsound → o ≡ None
read_unsound None h = refl
read_unsound (Some None) h = absurd h
read_unsound (Some (Some e)) h = absurd h

pub read_blank : (o : Option (Option RecordedEvent)) → IsRead o Blank → o ≡ Some None
read_blank None h = absurd h
read_blank (Some None) h = refl
read_blank (Some (Some e)) h = absurd h

pub read_event : (o : Option (Option RecordedEvent)) (paths : Vec (String Global) Global)
    → IsRead o (Event paths)
    → (e : RecordedEvent) × (o ≡ Some (Some e)) × (map string_bytes paths.items ≡ event_paths e)
read_event None paths h = absurd h
read_event (Some None) paths h = absurd h
read_event (Some (Some e)) paths h = (e, refl, h)
