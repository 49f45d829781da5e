-- Lines that are recorded, one after the other.
use Rattle.std.proofs.Common.{◌≡◌, ℕ, List, [], ◌∷◌, ◌++◌, true, false, Option, Some}
use Rattle.std.proofs.Common.{None, Result, Ok, Err, refl, sym, ap, subst, ◌∙◌, ◌⊎◌, inl}
use Rattle.std.proofs.Common.{inr, append_assoc, append-nil, true≢false, if◌then◌else◌}
use Rattle.std.specs.Bool.{⊤}
use Rattle.std.specs.List.{cons_option}
use Rattle.std.specs.Option.{option_and_then, option_map, option_or, option_to_list}
use Rattle.rec_container.specs.Container.{Entry}
use Rattle.rec_container.specs.Memory.{GrowingSinkState}
use Rattle.rec_events.specs.declared.outputs.LiveSpec.{LiveSpec}
use Rattle.rec_forms.specs.TextForm.{text_form}
use Rattle.rec_format.specs.declared.head.SessionHead.{SessionHead}
use Rattle.rec_codec.proofs.ReadEventLaws.{live_event_loaded}
use Rattle.rec_codec.specs.declared.line_events.LineError.TheVariants as lines
use Rattle.rec_codec.specs.declared.line_events.LineError.{LineError}
use Rattle.rec_codec.specs.Event.{LiveEvent, live_event, live_event_of}
use Rattle.rec_codec.specs.EventForms.{event_form, kind_loaded}
use Rattle.rec_codec.specs.LineEvents.{Misses, blank}
use Rattle.rec_codec.specs.Lines.{NumberedLine}
use Rattle.rec_codec.specs.Live.{is_loaded, live_form}
use Rattle.rec_store.proofs.OutputLaws.{outputs_push}
use Rattle.rec_store.specs.Bundle.{outputs_stored}
use Rattle.rec_store.specs.Clashes.{clash, with_entries}
use Rattle.rec_store.specs.EventOutputs.{event_entries}
use Rattle.rec_store.specs.Recording.{Recording}
use Rattle.rec_errors.specs.declared.export_error.RecordExportError.TheVariants.{
  NameCollision,
  OutOfMemory,
  ParseEvent,
  ReadRunLog,
}
use Rattle.rec_errors.specs.declared.export_error.RecordExportError.{RecordExportError}
use Rattle.rec_errors.specs.LineFaults.{line_fault}
use Rattle.rec_export.specs.Recorded.{HasRecorded, RecordsEvent, RecordsLine, RecordsLines}
use Rattle.rec_export.specs.Session.{event_at, event_refusal, events_of, line_refusal}
use Rattle.rec_export.specs.Session.{lines_refusal, outputs_at, text_refusal}

-- ---- what a line is

module _ (number : List ℕ → ℕ) (m : ℕ) (stored : List Entry) (n : ℕ) where
  -- a blank line is no fault, and has no event
  pub blank_line : (text : Option (List ℕ)) → blank text ≡ true
      → (text_refusal number m stored n text ≡ None) × (live_event text ≡ None)
  blank_line None h = absurd (true≢false (sym h))
  blank_line (Some text) h = (
    ap (λ b. if b then None else event_refusal number m stored n (live_event_of text)) h,
    ap (λ b. if b then None else live_event_of text) h,
  )

  -- a line with an event is refused for a clash alone
  pub line_of_event : (text : Option (List ℕ)) (event : LiveEvent) → blank text ≡ false
      → option_and_then (text_form (event_form {S = LiveSpec} live_form)) text ≡ Some event
      → (text_refusal number m stored n text
      ≡ option_map NameCollision (clash stored (event_entries number m event)))
      × (live_event text ≡ Some event)
  unfolding live_event_of
  line_of_event None event h e = absurd (let k = e in cc)
  line_of_event (Some text) event h e = (
    ap (λ b. if b then None else event_refusal number m stored n (live_event_of text)) h
        ∙ ap (event_refusal number m stored n) e,
    ap (λ b. if b then None else live_event_of text) h ∙ e,
  )

  -- the fault of a line is its refusal
  pub line_of_fault : (fault : LineError) (text : Option (List ℕ)) → blank text ≡ false
      → Misses (event_form {S = LiveSpec} live_form) fault n text
      → (line_fault fault ≡ OutOfMemory)
      ⊎ (text_refusal number m stored n text ≡ Some (line_fault fault))
  unfolding live_event_of
  line_of_fault (lines.ReadRunLog k) None h e = inr (ap (λ i. Some (ReadRunLog i)) (sym e.0))
  line_of_fault (lines.ReadRunLog k) (Some text) h e = absurd (let t = e.1 in cc)
  line_of_fault (lines.ParseEvent k) None h e = absurd (let some = e.1 in cc)
  line_of_fault (lines.ParseEvent k) (Some text) h e =
      inr (ap (λ b. if b then None else event_refusal number m stored n (live_event_of text)) h
      ∙ ap (event_refusal number m stored n) e.2 ∙ ap (λ i. Some (ParseEvent i)) (sym e.0))
  line_of_fault lines.OutOfMemory text h e = inl refl

-- an event of a line is loaded
pub event_is_loaded : (text : Option (List ℕ)) (event : LiveEvent)
    → option_and_then (text_form (event_form {S = LiveSpec} live_form)) text ≡ Some event
    → kind_loaded is_loaded event.kind ≡ true
unfolding live_event_of
event_is_loaded None event h = absurd (let k = h in cc)
event_is_loaded (Some text) event h = live_event_loaded text event h

-- ---- the lines after

-- the event of a line stands before those of the rest
pub events_next : (events : List LiveEvent) (o : Option LiveEvent) (rest : List LiveEvent)
    → (events ++ option_to_list o) ++ rest ≡ events ++ cons_option o rest
events_next events None rest = ap (λ l. l ++ rest) (append-nil events)
events_next events (Some e) rest = append_assoc events (e ∷ []) rest

module _ (number : List ℕ → ℕ) (m : ℕ) (events : List LiveEvent) where
  outputs_next : (o : Option LiveEvent)
      → outputs_stored number m (events ++ option_to_list o)
      ≡ with_entries (outputs_stored number m events) (outputs_at number m o)
  outputs_next None = ap (outputs_stored number m) (append-nil events)
  outputs_next (Some e) = outputs_push number m events e

  pub refusal_next : (line : NumberedLine) (rest : List NumberedLine)
      → line_refusal number m (outputs_stored number m events) line ≡ None
      → lines_refusal number m (outputs_stored number m events) (line ∷ rest) ≡ lines_refusal number
      m (outputs_stored number m (events ++ option_to_list (event_at line))) rest
  refusal_next line rest none =
      ap (λ o. option_or o (lines_refusal number m
      (with_entries (outputs_stored number m events) (outputs_at number m (event_at line))) rest))
      none
      ∙ ap (λ es. lines_refusal number m es rest) (sym (outputs_next (event_at line)))

module _ {S N : Type 0} (number : N → List ℕ → ℕ) (namer : N) (m : ℕ) (head : SessionHead)
    (events : List LiveEvent) (line : NumberedLine) (rest : List NumberedLine)
    (new : Recording S GrowingSinkState N) where
  -- the refusal of a line is that of all from it on
  pub refused_here : (e : RecordExportError)
      → RecordsLine number namer m head events line new (Err e)
      → RecordsLines number namer m head events (line ∷ rest) new (Err e)
  refused_here e (inl h) = inl h
  refused_here e (inr h) =
      inr (ap (λ o. option_or o (lines_refusal (number namer) m (with_entries (outputs_stored
      (number namer) m events) (outputs_at (number namer) m (event_at line))) rest)) h)

  -- after a line that was recorded, what the rest gives is what all give
  pub recorded_here : (r : Result ⊤ RecordExportError)
      → line_refusal (number namer) m (outputs_stored (number namer) m events) line ≡ None
      → RecordsLines number namer m head (events ++ option_to_list (event_at line)) rest new r
      → RecordsLines number namer m head events (line ∷ rest) new r
  recorded_here (Ok u) none h = (
    refusal_next (number namer) m events line rest none ∙ h.0,
    subst (λ es. HasRecorded number namer m head es new)
        (events_next events (event_at line) (events_of rest)) h.1,
  )
  recorded_here (Err e) none (inl h) = inl h
  recorded_here (Err e) none (inr h) = inr (refusal_next (number namer) m events line rest none ∙ h)

module _ {S N : Type 0} (number : N → List ℕ → ℕ) (namer : N) (m : ℕ) (head : SessionHead)
    (events : List LiveEvent) (event : LiveEvent) (line : NumberedLine)
    (new : Recording S GrowingSinkState N)
    (refusal : line_refusal (number namer) m (outputs_stored (number namer) m events) line
    ≡ option_map NameCollision
    (clash (outputs_stored (number namer) m events) (event_entries (number namer) m event)))
    (has_event : event_at line ≡ Some event) where
  -- a line with an event does what its event does
  pub line_recorded : (r : Result ⊤ RecordExportError)
      → RecordsEvent number namer m head events event new r
      → RecordsLine number namer m head events line new r
  line_recorded (Ok u) h = (
    refusal ∙ ap (option_map NameCollision) h.0,
    subst (λ o. HasRecorded number namer m head (events ++ option_to_list o) new) (sym has_event)
        h.1,
  )
  line_recorded (Err e) (inl h) = inl h
  line_recorded (Err e) (inr h) = inr (refusal ∙ h)

-- what is said of a recorder's own namer and limit is said of those that it was made with
pub made_with : {S N : Type 0} (number : N → List ℕ → ℕ) (namer : N) (m : ℕ) (head : SessionHead)
    (events : List LiveEvent) (r : Recording S GrowingSinkState N)
    → HasRecorded number namer m head events r
    → HasRecorded number r.namer r.max_output head events r
made_with number namer m head events r has =
    subst (λ k. HasRecorded number r.namer k head events r) (sym has.limit_kept)
    (subst (λ n. HasRecorded number n m head events r) (sym has.namer_kept) has)

pub line_with : {S N : Type 0} (number : N → List ℕ → ℕ) (namer : N) (m : ℕ) (head : SessionHead)
    (events : List LiveEvent) (line : NumberedLine) (old new : Recording S GrowingSinkState N)
    (r : Result ⊤ RecordExportError)
    → HasRecorded number namer m head events old
    → RecordsLine number old.namer old.max_output head events line new r
    → RecordsLine number namer m head events line new r
line_with number namer m head events line old new r has h =
    subst (λ k. RecordsLine number namer k head events line new r) has.limit_kept
    (subst (λ n. RecordsLine number n old.max_output head events line new r) has.namer_kept h)

pub lines_with : {S N : Type 0} (number : N → List ℕ → ℕ) (namer : N) (m : ℕ) (head : SessionHead)
    (events : List LiveEvent) (lines : List NumberedLine) (old new : Recording S GrowingSinkState N)
    (r : Result ⊤ RecordExportError)
    → HasRecorded number namer m head events old
    → RecordsLines number old.namer old.max_output head events lines new r
    → RecordsLines number namer m head events lines new r
lines_with number namer m head events lines old new r has h =
    subst (λ k. RecordsLines number namer k head events lines new r) has.limit_kept
    (subst (λ n. RecordsLines number n old.max_output head events lines new r) has.namer_kept h)
