-- A log that is written anew, event by event.
use Rattle.std.proofs.Common.{◌≡◌, ◌⊎◌, inl, inr, suc, ℕ, ◌+◌, List, [], ◌∷◌, ◌++◌}
use Rattle.std.proofs.Common.{length, map, Option, Some, None, Result, Ok, Err, refl}
use Rattle.std.proofs.Common.{sym, ap, subst, ◌∙◌, arith, append-nil, length-append}
use Rattle.std.proofs.lemmas.List.Concat.{flat_map-append}
use Rattle.std.proofs.lemmas.List.{map-append}
use Rattle.std.specs.Iterator.{Yields}
use Rattle.std.specs.List.{flat_map}
use Rattle.rec_forms.specs.Outputs.{stored_outputs_form}
use Rattle.rec_codec.proofs.LineReadings.{drained, failed}
use Rattle.rec_codec.specs.declared.line_events.LineError.TheVariants as line
use Rattle.rec_codec.specs.declared.line_events.LineError.{LineError}
use Rattle.rec_codec.specs.Event.{RecordedEvent, event_line, log_text}
use Rattle.rec_codec.specs.EventForms.{event_form}
use Rattle.rec_codec.specs.LineItems.{GivesNext}
use Rattle.rec_codec.specs.LineReading.{events_before_fault, first_line_fault, log_items}
use Rattle.rec_codec.specs.Lines.{NumberedLine, lines, numbered}
use Rattle.rec_store.specs.declared.read_error.RecordReadError.TheVariants.{OutOfMemory}
use Rattle.rec_store.specs.declared.read_error.RecordReadError.{RecordReadError}
use Rattle.rec_store.specs.JudgedParts.{events_or_fault, line_refusal, log_judged}
use Rattle.rec_store.specs.Kept.{event_paths}
use Rattle.rec_store.specs.OutputPaths.{output_path}
use Rattle.rec_store.specs.Readers.{Refuses}
use Rattle.rec_portable.specs.declared.upgrading.log.RewrittenLog.{RewrittenLog}
use Rattle.rec_portable.specs.Rewriting.{AddsEvent, IsRewrittenLog}

abbrev Item : Type 0
Item = Result RecordedEvent LineError

-- the items so far are events, which are written anew
pub record HasRewritten (items : List Item) (log : RewrittenLog) : Type 0 where
  pub events : List RecordedEvent
  pub are : items ≡ map Ok events
  pub is : IsRewrittenLog events log

pub nothing_rewritten : (log : RewrittenLog) → log.text.items ≡ [] → log.events ≡ 0
    → log.names.items ≡ [] → HasRewritten [] log
nothing_rewritten log text count names = record {
  events = [];
  are = refl;
  is = record { text = text; count = count; names = ap (map output_path) names };
}

-- one item more
pub one_rewritten : (items : List Item) (item : Item) (old new : RewrittenLog)
    → HasRewritten items old → (e : RecordedEvent) × (item ≡ Ok e) × AddsEvent e old new
    → HasRewritten (items ++ item ∷ []) new
one_rewritten items item old new has added =
    let e = added.0 in
    let step = added.2 in
    let longer = length-append has.events (e ∷ []) in
    let text : flat_map event_line (has.events ++ e ∷ [])
    ≡ flat_map event_line has.events ++ event_line e =
    flat_map-append event_line has.events (e ∷ [])
    ∙ ap (λ l. flat_map event_line has.events ++ l) (append-nil (event_line e)) in
    let names : flat_map event_paths (has.events ++ e ∷ [])
    ≡ flat_map event_paths has.events ++ event_paths e =
    flat_map-append event_paths has.events (e ∷ [])
    ∙ ap (λ l. flat_map event_paths has.events ++ l) (append-nil (event_paths e)) in
    record {
      events = has.events ++ e ∷ [];
      are =
          ap (λ v. items ++ v ∷ []) added.1 ∙ ap (λ v. v ++ Ok e ∷ []) has.are
          ∙ sym (map-append Ok has.events (e ∷ []));
      is = record {
        text = step.text ∙ ap (λ l. l ++ event_line e) has.is.text ∙ sym text;
        count = omega (arith, step.count, has.is.count, longer);
        names = step.names ∙ ap (λ l. l ++ event_paths e) has.is.names ∙ sym names;
      };
    }

-- ---- the lines

module _ (log : List ℕ) where
  abbrev ls : List NumberedLine
  ls = numbered 1 (lines log)

  module _ (start mid left : List NumberedLine) (items : List Item) (events : List RecordedEvent)
      (from : start ≡ ls) (are : items ≡ map Ok events) where
    abbrev Steps : List NumberedLine → Option Item → List NumberedLine → Type 0
    Steps = GivesNext (event_form stored_outputs_form)

    module _ (yields : Yields Steps start items mid) where
      gave : Yields Steps ls (map Ok events) mid
      gave =
          subst (λ v. Yields Steps v (map Ok events) mid) from
          (subst (λ v. Yields Steps start v mid) are yields)

      -- the lines gave these events, and then no more
      pub log_whole : Steps mid None left → log_judged log ≡ Ok events
      unfolding log_items
      log_whole step =
          let is = drained (event_form stored_outputs_form) events ls (left, (mid, gave, step)) in
          ap (events_or_fault (events_before_fault ls)) is.1 ∙ ap Ok is.0

      -- and then a fault
      pub log_fault : (item : Item) (fault : LineError) → Steps mid (Some item) left
          → item ≡ Err fault → (fault ≡ line.OutOfMemory → ⊥)
          → log_judged log ≡ Err (line_refusal fault)
      unfolding log_items
      log_fault item fault step is memory =
          let found = failed (event_form stored_outputs_form) events ls left fault
          (mid, gave, subst (λ v. Steps mid (Some v) left) is step) memory in
          ap (events_or_fault (events_before_fault ls)) found.1

-- a refusal for an item is that of the log
pub refuses_log : (log : List ℕ) (item : Item) (x : RecordReadError)
    → (x ≡ OutOfMemory) ⊎ ((fault : LineError) × (item ≡ Err fault) × (x ≡ line_refusal fault))
    → ((fault : LineError) → item ≡ Err fault → (fault ≡ line.OutOfMemory → ⊥)
    → log_judged log ≡ Err (line_refusal fault))
    → Refuses (log_judged log) x
refuses_log log item x (inl memory) f = subst (λ y. Refuses (log_judged log) y) (sym memory) tt
refuses_log log item x (inr (fault, is, refused)) f =
    subst (λ y. Refuses (log_judged log) y) (sym refused) (by fault is)
  where
    by : (g : LineError) → item ≡ Err g → Refuses (log_judged log) (line_refusal g)
    by (line.ReadRunLog n) h = f (line.ReadRunLog n) h (λ same. cc)
    by (line.ParseEvent n) h = f (line.ParseEvent n) h (λ same. cc)
    by line.OutOfMemory h = tt
