-- A log reads back.
use Rattle.std.proofs.Common.{◌≡◌, false, List, [], ◌∷◌, ◌++◌, length, Some, refl, sym}
use Rattle.std.proofs.Common.{ap, subst, ◌∙◌, arith, append_assoc, option_and_then}
use Rattle.std.proofs.lemmas.Bool.{ne_eqb}
use Rattle.std.proofs.lemmas.Str.{IsUtf8-from_is_utf8}
use Rattle.std.specs.List.{AllByRecursion}
use Rattle.std.specs.Str.{trim, IsUtf8}
use Rattle.serde_json.specs.Data.{Members, object}
use Rattle.serde_json.specs.Written.{compact_text}
use Rattle.rec_events.specs.declared.outputs.RecordingSpec.{RecordingSpec}
use Rattle.rec_forms.proofs.ReadBack.{IsWritable-read_back}
use Rattle.rec_forms.specs.OutputLaws.{stored_outputs_back, stored_outputs_writable}
use Rattle.rec_forms.specs.Outputs.{IsStoredOutputs, stored_outputs_value, stored_outputs_form}
use Rattle.rec_forms.specs.Writable.{IsWritable}
use Rattle.rec_codec.proofs.CompactText.{
  IsPiece-from_is_piece,
  compact_text_piece,
  members_text_end,
}
use Rattle.rec_codec.proofs.LineLemmas.{IsPiece, lines_at, text_of-utf8}
use Rattle.rec_codec.proofs.Trims.{trim_braces}
use Rattle.rec_codec.specs.Event.{RecordedEvent, event_text, log_text, recorded_event_of}
use Rattle.rec_codec.specs.Event.{line_event, with_event, log_events, IsLogged}
use Rattle.rec_codec.specs.EventFormLaws.{event_back, event_writable}
use Rattle.rec_codec.specs.EventForms.{event_value, event_form, IsEvent}
use Rattle.rec_codec.specs.Lines.{lines, text_of, is_blank}

-- ---- the text of an object

trim_object : (ms : Members) → IsUtf8 (compact_text (object ms))
    → trim (compact_text (object ms)) ≡ compact_text (object ms)
trim_object ms u =
    let end = members_text_end false ms in
    let is : compact_text (object ms) ≡ 123 ∷ (end.0 ++ 125 ∷ []) = ap (λ t. 123 ∷ t) end.1 in
    ap trim is ∙ trim_braces end.0 (subst IsUtf8 is u) ∙ sym is

object_not_blank : (ms : Members) → is_blank (compact_text (object ms)) ≡ false
object_not_blank ms = ne_eqb (length (compact_text (object ms))) 0 (λ e. omega arith)

-- ---- the text of an event

event_text_piece : (e : RecordedEvent) → IsPiece (event_text e)
unfolding event_text
event_text_piece e =
    IsPiece-from_is_piece (event_text e) (compact_text_piece (event_value stored_outputs_value e))

-- trimming leaves it as it is
pub text_of-event_text : (e : RecordedEvent) → IsLogged e
    → text_of (event_text e) ≡ Some (event_text e)
unfolding event_text
text_of-event_text e h =
    let u : IsUtf8 (event_text e) = IsUtf8-from_is_utf8 _ h.utf8 in
    text_of-utf8 (event_text e) u ∙ ap Some (trim_object _ u)

pub event_text_not_blank : (e : RecordedEvent) → is_blank (event_text e) ≡ false
unfolding event_text
event_text_not_blank e = object_not_blank _

line_event-event_text : (e : RecordedEvent) → IsLogged e
    → line_event (text_of (event_text e)) ≡ Some (Some e)
line_event-event_text e h = rw (text_of-event_text e h, event_text_not_blank e, h.read) refl

-- the value of a well-formed event can be written
pub event_value_writable : (e : RecordedEvent) → IsEvent IsStoredOutputs e
    → IsWritable 14 (event_value stored_outputs_value e)
event_value_writable =
    event_writable {S = RecordingSpec}
    IsStoredOutputs 4 stored_outputs_value stored_outputs_writable

-- the text of a well-formed event is read as it
pub event_logged : (e : RecordedEvent) → IsEvent IsStoredOutputs e → IsLogged e
unfolding event_text recorded_event_of
event_logged e h =
    let back = IsWritable-read_back 14 (event_value stored_outputs_value e)
    (event_value_writable e h) (omega arith) in
    record {
      utf8 = back.1;
      read =
          ap (λ o. option_and_then (event_form stored_outputs_form) o) back.0
          ∙ event_back {S = RecordingSpec}
          IsStoredOutputs stored_outputs_value stored_outputs_form stored_outputs_back e h;
    }

-- ---- logs

-- the first event's text is the first line
pub lines-log_text : (e : RecordedEvent) (events : List RecordedEvent)
    → lines (log_text (e ∷ events)) ≡ event_text e ∷ lines (log_text events)
lines-log_text e events =
    ap lines (append_assoc (event_text e) (10 ∷ []) (log_text events))
    ∙ lines_at (event_text e) (log_text events) (event_text_piece e)

pub log_events_back : (events : List RecordedEvent) → AllByRecursion IsLogged events
    → log_events (lines (log_text events)) ≡ Some events
log_events_back [] h = refl
log_events_back (e ∷ events) h =
    ap log_events (lines-log_text e events)
    ∙ ap (λ o. with_event o (log_events (lines (log_text events)))) (line_event-event_text e h.0)
    ∙ ap (λ o. with_event (Some (Some e)) o) (log_events_back events h.1)

all_logged : (events : List RecordedEvent) → AllByRecursion (IsEvent IsStoredOutputs) events
    → AllByRecursion IsLogged events
all_logged [] h = tt
all_logged (e ∷ events) h = (event_logged e h.0, all_logged events h.1)

-- a log of well-formed events is read as them
pub log_reads_back : (events : List RecordedEvent) → AllByRecursion (IsEvent IsStoredOutputs) events
    → log_events (lines (log_text events)) ≡ Some events
log_reads_back events h = log_events_back events (all_logged events h)
