-- The trace of a log, from what an iterator over its lines gives.
use Rattle.std.proofs.Common.{◌≡◌, ◌⊎◌, inl, inr, ℕ, List, [], ◌∷◌, ◌++◌, map}
use Rattle.std.proofs.Common.{Option, Some, None, option_map, Result, Ok, Err}
use Rattle.std.proofs.Common.{IfOk, IfErr, Vec, Global, refl, sym, ap, ◌∙◌, subst}
use Rattle.std.proofs.lemmas.List.{map-append}
use Rattle.std.specs.Option.{option_or}
use Rattle.semver.specs.Parse.{Parts}
use Rattle.rec_forms.specs.Outputs.{stored_outputs_form}
use Rattle.rec_codec.proofs.LineReadings.{drained, failed, yielded}
use Rattle.rec_codec.specs.declared.line_events.LineError.{LineError}
use Rattle.rec_codec.specs.Event.{RecordedEvent}
use Rattle.rec_codec.specs.EventForms.{event_form}
use Rattle.rec_codec.specs.LineItems.{GivesNext}
use Rattle.rec_codec.specs.LineReading.{events_before_fault, first_line_fault, log_items}
use Rattle.rec_codec.specs.Lines.{NumberedLine}
use Rattle.rec_spans.proofs.Histories.{refused-more}
use Rattle.rec_spans.specs.declared.errors.ChromeTraceError.TheVariants.{OutOfMemory, ReadError}
use Rattle.rec_spans.specs.declared.errors.ChromeTraceError.{ChromeTraceError}
use Rattle.rec_spans.specs.declared.settings.ChromeTraceGroupBy.{ChromeTraceGroupBy}
use Rattle.rec_spans.specs.Plain.{plain}
use Rattle.rec_spans.specs.Refusals.{events_refusal}
use Rattle.rec_trace.specs.Converting.{Converts, HasNoTrace, IsRefused, IsUnread}
use Rattle.rec_trace.specs.declared.settings.ChromeTraceMessageFormat.{ChromeTraceMessageFormat}
use Rattle.rec_trace.specs.PrintedTimeline.{PrintsTimeline}
use Rattle.rec_trace.specs.Traces.{trace_text}
use Rattle.rec_program.specs.LogTraces.{TracesLog, log_refusal, log_trace, plain_log}

-- ---- the refusal of a log

module _ (g : ChromeTraceGroupBy) (ls : List NumberedLine) where
  -- that of its events, where no line fails
  pub refusal-whole : first_line_fault ls ≡ None
      → log_refusal g ls ≡ events_refusal g (plain_log ls)
  unfolding log_refusal
  refusal-whole none =
      ap (λ o. option_or (events_refusal g (plain_log ls)) (option_map ReadError o)) none
      ∙ or-none (events_refusal g (plain_log ls))
    where
      or-none : (o : Option ChromeTraceError) → option_or o None ≡ o
      or-none None = refl
      or-none (Some e) = refl

  -- that of its events, where they have one
  refusal-event : (e : ChromeTraceError) → events_refusal g (plain_log ls) ≡ Some e
      → log_refusal g ls ≡ Some e
  unfolding log_refusal
  refusal-event e refused =
      ap (λ o. option_or o (option_map ReadError (first_line_fault ls))) refused

  -- and the fault of the first line that fails, where its events have none
  refusal-line : (fault : LineError) → first_line_fault ls ≡ Some fault
      → events_refusal g (plain_log ls) ≡ None → log_refusal g ls ≡ Some (ReadError fault)
  unfolding log_refusal
  refusal-line fault found accepted =
      ap (λ o. option_or o (option_map ReadError (first_line_fault ls))) accepted
      ∙ ap (option_map ReadError) found

-- ---- what a conversion answers

module _ (g : ChromeTraceGroupBy) (format : ChromeTraceMessageFormat) (version : Parts)
    (ls : List NumberedLine) where
  abbrev steps : List NumberedLine → Option (Result RecordedEvent LineError) → List NumberedLine
      → Type 0
  steps = GivesNext (event_form stored_outputs_form)

  drawn : (text : List ℕ) → Converts steps ls g format version text
      → (log_refusal g ls ≡ None) × (text ≡ log_trace g format version ls)
      × PrintsTimeline version g (plain_log ls) text
  unfolding log_items log_trace
  drawn text c =
      let is = drained (event_form stored_outputs_form) c.events ls c.drained in
      let all : events_before_fault ls ≡ c.events = is.0 in (
        refusal-whole g ls is.1 ∙ ap (λ es. events_refusal g (map plain es)) all ∙ c.accepted,
        c.written ∙ ap (λ es. trace_text format g version (map plain es)) (sym all),
        subst (λ (es : List RecordedEvent). PrintsTimeline version g (map plain es) text) (sym all)
            c.printed,
      )

  unread : (e : ChromeTraceError) → IsUnread steps ls g e → log_refusal g ls ≡ Some e
  unfolding log_items
  unread e u =
      let is =
      failed (event_form stored_outputs_form) u.events ls u.rest u.fault u.yielded u.no_memory in
      let all : events_before_fault ls ≡ u.events = is.0 in
      refusal-line g ls u.fault is.1 (ap (λ es. events_refusal g (map plain es)) all ∙ u.accepted)
      ∙ ap Some (sym u.answered)

  refused : (e : ChromeTraceError) → IsRefused steps ls g e → log_refusal g ls ≡ Some e
  unfolding log_items
  refused e r =
      let first = r.before ++ r.event ∷ [] in
      let is = yielded (event_form stored_outputs_form) first ls r.rest r.yielded in
      let all : plain_log ls ≡ map plain first ++ map plain is.0 =
      ap (map plain) is.1 ∙ map-append plain first is.0 in
      refusal-event g ls e
      (ap (events_refusal g) all ∙ refused-more g (map plain first) (map plain is.0) e r.refused)

  not-drawn : (e : ChromeTraceError) → HasNoTrace steps ls g e
      → (e ≡ OutOfMemory) ⊎ (log_refusal g ls ≡ Some e)
  not-drawn e (inl memory) = inl memory
  not-drawn e (inr (inl u)) = inr (unread e u)
  not-drawn e (inr (inr r)) = inr (refused e r)

  -- what the conversion of what an iterator over the lines gives answers
  pub traces-log : (r : Result (Vec ℕ Global) ChromeTraceError)
      → IfOk r (λ text. Converts steps ls g format version text.items)
      → IfErr r (λ e. HasNoTrace steps ls g e)
      → TracesLog g format version ls r
  traces-log (Ok text) ok err = drawn text.items ok
  traces-log (Err e) ok err = not-drawn e err
