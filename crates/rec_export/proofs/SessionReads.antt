-- The bundle of a session that is accepted is read as what was recorded of it.
use Rattle.std.proofs.Common.{◌≡◌, ℕ, ◌<◌, ◌^◌, List, [], ◌∷◌, ◌++◌, nat_lt, Bool}
use Rattle.std.proofs.Common.{true, false, Option, Some, None, IfSome, refl, sym, ap}
use Rattle.std.proofs.Common.{subst, ◌∙◌, arith, append-nil, if◌then◌else◌, length}
use Rattle.std.proofs.lemmas.Bool.Decides.{nat_tests}
use Rattle.std.specs.List.{AllByRecursion, cons_option}
use Rattle.std.specs.Option.{option_and_then, option_map, option_or, option_to_list}
use Rattle.serde_json.specs.Data.{Data}
use Rattle.rec_container.specs.Container.{Entry}
use Rattle.rec_forms.specs.TextForm.{value_in}
use Rattle.rec_format.proofs.TextLaws.{IsHead-read}
use Rattle.rec_format.specs.declared.head.SessionHead.{SessionHead}
use Rattle.rec_format.specs.HeadForms.{head_form, IsHead}
use Rattle.rec_codec.proofs.ReadEventLaws.{live_event_well_formed}
use Rattle.rec_codec.specs.Event.{LiveEvent, live_event, live_event_of}
use Rattle.rec_codec.specs.Lines.{NumberedLine, is_blank, text_of}
use Rattle.rec_store.proofs.OutputLaws.{clash_push}
use Rattle.rec_store.proofs.ReadLaws.{bundle_reads_spec}
use Rattle.rec_store.specs.Bundle.{outputs_stored, run_bundle, run_outputs}
use Rattle.rec_store.specs.Clashes.{clash}
use Rattle.rec_store.specs.EventOutputs.{event_entries}
use Rattle.rec_store.specs.Reading.{IsReading, recorded}
use Rattle.rec_store.specs.Recordable.{HasLength, IsRecordable, event_outputs}
use Rattle.rec_errors.specs.declared.export_error.RecordExportError.TheVariants.{
  CountOutOfRange,
  NameCollision,
}
use Rattle.rec_export.proofs.Judging.{events_after}
use Rattle.rec_export.proofs.RecordedLines.{events_next, refusal_next}
use Rattle.rec_export.proofs.ShortLines.{AreWithin, numbered_lines_short, text_of_short}
use Rattle.rec_export.proofs.ShortOutputs.{outputs_short}
use Rattle.rec_export.proofs.ShortTexts.{AllAtMost, AtMost, all_longer, longer}
use Rattle.rec_export.specs.Bundle.{count_refusal, head_in, session_events, session_head}
use Rattle.rec_export.specs.declared.settings.Settings.{Settings}
use Rattle.rec_export.specs.Session.{event_at, event_lines, event_refusal, events_of}
use Rattle.rec_export.specs.Session.{head_text, line_refusal, lines_refusal}
use Rattle.rec_export.specs.Session.{outputs_at, session_lines, text_refusal}

-- ---- where nothing is refused

first_none : {E : Type 0} (a b : Option E) → option_or a b ≡ None → a ≡ None
first_none None b h = refl
first_none (Some x) b h = absurd cc

none_mapped : {A B : Type 0} (f : A → B) (o : Option A) → option_map f o ≡ None → o ≡ None
none_mapped f None h = refl
none_mapped f (Some x) h = absurd cc

passed : {E : Type 0} (b : Bool) (e : E) → (if b then None else Some e) ≡ None → b ≡ true
passed true e h = refl
passed false e h = absurd cc

below : (n : ℕ) → nat_lt n (2 ^ 64) ≡ true → n < 2 ^ 64
below n h = grind (arith, nat_tests)

-- ---- a head that is read is well-formed

read_value : (v : Option Data) (head : SessionHead) → option_and_then head_form v ≡ Some head
    → IsHead head
read_value None head h = absurd cc
read_value (Some d) head h = IsHead-read d head h

read_head : (text : Option (List ℕ)) (head : SessionHead) → head_in text ≡ Some head → IsHead head
read_head None head h = absurd cc
read_head (Some text) head h = read_value (value_in text) head h

-- ---- events of lines that aren't refused can be recorded, and their outputs don't clash

given_by : {T : Type 0} (P : T → Type 0) (o : Option T) → ((x : T) → o ≡ Some x → P x) → IfSome o P
given_by P None f = tt
given_by P (Some x) f = f x refl

given_unless : {T : Type 0} (P : T → Type 0) (b : Bool) (o : Option T) → IfSome o P
    → IfSome (if b then None else o) P
given_unless P true o h = tt
given_unless P false o h = h

has_length : (n : ℕ) (bs : List (List ℕ)) → n < 2 ^ 64 → AllAtMost n bs
    → AllByRecursion HasLength bs
has_length n [] small h = tt
has_length n (b ∷ bs) small h =
    (let first = h.0 in omega (arith, small, first), has_length n bs small h.1)

-- the outputs of a line's event are no longer than its text
text_recordable : (n : ℕ) (text : Option (List ℕ)) → n < 2 ^ 64 → AtMost n text
    → IfSome (live_event text) IsRecordable
text_recordable n None small h = tt
text_recordable n (Some text) small h =
    given_unless IsRecordable (is_blank text) (live_event_of text)
    (given_by IsRecordable (live_event_of text) (λ e is. record {
      event = live_event_well_formed text e is;
      outputs =
          has_length n (event_outputs e) small
          (all_longer n (length text) (event_outputs e) (outputs_short text e is) h);
    }))

one_more : (o : Option LiveEvent) (events : List LiveEvent) → IfSome o IsRecordable
    → AllByRecursion IsRecordable events → AllByRecursion IsRecordable (cons_option o events)
one_more None events is others = others
one_more (Some e) events is others = (is, others)

all_recordable : (n : ℕ) (lines : List NumberedLine) → n < 2 ^ 64 → AreWithin n lines
    → AllByRecursion IsRecordable (events_of lines)
all_recordable n [] small h = tt
all_recordable n (line ∷ lines) small h =
    one_more (event_at line) (events_of lines)
    (text_recordable n (text_of line.bytes) small
    (longer n (length line.bytes) (text_of line.bytes) (text_of_short line.bytes) h.0))
    (all_recordable n lines small h.1)

after_first : (n : ℕ) (lines : List NumberedLine) → AreWithin n lines
    → AreWithin n (event_lines lines)
after_first n [] h = tt
after_first n (line ∷ lines) h = h.1

session_recordable : (session : List ℕ) → length session < 2 ^ 64
    → AllByRecursion IsRecordable (events_of (event_lines (session_lines session)))
session_recordable session small =
    let n = length session in
    all_recordable n (event_lines (session_lines session)) small
    (after_first n (session_lines session) (numbered_lines_short 1 session))

module _ (number : List ℕ → ℕ) (m : ℕ) where
  event_clean : (stored : List Entry) (n : ℕ) (b : Bool) (o : Option LiveEvent)
      → (if b then None else event_refusal number m stored n o) ≡ None
      → clash stored (outputs_at number m (if b then None else o)) ≡ None
  event_clean stored n true o h = refl
  event_clean stored n false None h = absurd cc
  event_clean stored n false (Some e) h =
      none_mapped NameCollision (clash stored (event_entries number m e)) h

  text_clean : (stored : List Entry) (n : ℕ) (text : Option (List ℕ))
      → text_refusal number m stored n text ≡ None
      → clash stored (outputs_at number m (live_event text)) ≡ None
  text_clean stored n None h = absurd cc
  text_clean stored n (Some text) h = event_clean stored n (is_blank text) (live_event_of text) h

  push_clean : (events : List LiveEvent) (o : Option LiveEvent)
      → clash [] (run_outputs number m events) ≡ None
      → clash (outputs_stored number m events) (outputs_at number m o) ≡ None
      → clash [] (run_outputs number m (events ++ option_to_list o)) ≡ None
  push_clean events None before now =
      ap (λ es. clash [] (run_outputs number m es)) (append-nil events) ∙ before
  push_clean events (Some e) before now = clash_push number m events e before now

  lines_clean : (lines : List NumberedLine) (events : List LiveEvent)
      → lines_refusal number m (outputs_stored number m events) lines ≡ None
      → clash [] (run_outputs number m events) ≡ None
      → clash [] (run_outputs number m (events ++ events_of lines)) ≡ None
  lines_clean [] events h before =
      ap (λ es. clash [] (run_outputs number m es)) (append-nil events) ∙ before
  lines_clean (line ∷ lines) events h before =
      let stored = outputs_stored number m events in
      let now : line_refusal number m stored line ≡ None =
      first_none (line_refusal number m stored line) _ h in
      let more = push_clean events (event_at line) before
      (text_clean stored line.number (text_of line.bytes) now) in
      ap (λ es. clash [] (run_outputs number m es))
      (sym (events_next events (event_at line) (events_of lines)))
      ∙ lines_clean lines (events ++ option_to_list (event_at line))
      (sym (refusal_next number m events line lines now) ∙ h) more

-- ---- so the bundle of all is read

module _ (number : List ℕ → ℕ) (settings : Settings) (head : SessionHead) where
  reads_after : (lines : List NumberedLine) → IsHead head
      → ((bytes : List ℕ) → number bytes < 2 ^ 64)
      → lines_refusal number settings.max_output [] lines ≡ None
      → count_refusal number settings head (events_of lines) ≡ None
      → AllByRecursion IsRecordable (events_of lines)
      → IsReading (run_bundle number settings.max_output head (events_of lines))
      (recorded number settings.max_output head (events_of lines))
  reads_after lines is in_range clean counted recordable =
      let m = settings.max_output in
      bundle_reads_spec number m head (events_of lines) is recordable in_range
      (lines_clean number m lines [] clean refl) (below _ (passed _ (CountOutOfRange None) counted))

pub bundles_of_sessions_read_spec : (number : List ℕ → ℕ) (settings : Settings) (session : List ℕ)
    (head : SessionHead)
    → ((bytes : List ℕ) → number bytes < 2 ^ 64)
    → session_head session ≡ Some head
    → lines_refusal number settings.max_output [] (event_lines (session_lines session)) ≡ None
    → count_refusal number settings head (session_events session) ≡ None → length session < 2 ^ 64
    → IsReading (run_bundle number settings.max_output head (session_events session))
    (recorded number settings.max_output head (session_events session))
bundles_of_sessions_read_spec number settings session head in_range has_head clean counted small =
    let lines = event_lines (session_lines session) in
    let m = settings.max_output in
    subst
    (λ (es : List LiveEvent). IsReading (run_bundle number m head es) (recorded number m head es))
    (events_after session) (
    reads_after number settings head lines
    (read_head (head_text (session_lines session)) head has_head) in_range clean
    (subst (λ (es : List LiveEvent). count_refusal number settings head es ≡ None)
    (sym (events_after session)) counted)
    (session_recordable session small)
    )
