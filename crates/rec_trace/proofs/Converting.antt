-- The trace of what an iterator gives, event by event.
use Rattle.std.proofs.Common.{◌≡◌, ◌⊎◌, inl, inr, ℕ, List, [], ◌∷◌, ◌++◌, map, Option}
use Rattle.std.proofs.Common.{None, Some, Result, Ok, Err, ap, refl, sym, ◌∙◌, subst}
use Rattle.std.proofs.lemmas.List.{map-append}
use Rattle.std.specs.Bool.{⊤}
use Rattle.std.specs.Iterator.{Yields}
use Rattle.semver.specs.Parse.{Parts}
use Rattle.rec_codec.specs.declared.line_events.LineError.TheVariants as faults
use Rattle.rec_codec.specs.declared.line_events.LineError.{LineError}
use Rattle.rec_codec.specs.Event.{RecordedEvent}
use Rattle.rec_spans.proofs.Groupings.{groupings-agree}
use Rattle.rec_spans.proofs.Timelines.{timeline}
use Rattle.rec_spans.proofs.TimesOfHistory.{times-add_up}
use Rattle.rec_spans.specs.declared.errors.ChromeTraceError.TheVariants.{OutOfMemory, ReadError}
use Rattle.rec_spans.specs.declared.errors.ChromeTraceError.{ChromeTraceError}
use Rattle.rec_spans.specs.declared.settings.ChromeTraceGroupBy.{ChromeTraceGroupBy}
use Rattle.rec_spans.specs.Faults.{fault_error}
use Rattle.rec_spans.specs.History.{after, state_after}
use Rattle.rec_spans.specs.Kinds.{history}
use Rattle.rec_spans.specs.Plain.{PlainEvent, plain}
use Rattle.rec_spans.specs.Refusals.{events_refusal}
use Rattle.rec_trace.proofs.Arrows.{arrows-pair}
use Rattle.rec_trace.proofs.Groupings.{groupings-draw_alike}
use Rattle.rec_trace.proofs.KnownByPlaces.{known-by_places}
use Rattle.rec_trace.proofs.Marks.{marks-of-drawn, marks-of-trace}
use Rattle.rec_trace.proofs.NamedOnce.{named-once}
use Rattle.rec_trace.proofs.Prefixes.{keeps-drawn}
use Rattle.rec_trace.specs.Converting.{AddsItem, Converts, HasNoTrace}
use Rattle.rec_trace.specs.declared.printed_trace.PrintedTrace.{PrintedTrace}
use Rattle.rec_trace.specs.declared.settings.ChromeTraceMessageFormat.{ChromeTraceMessageFormat}
use Rattle.rec_trace.specs.Histories.{known_of}
use Rattle.rec_trace.specs.PrintedTimeline.{PrintsTimeline}
use Rattle.rec_trace.specs.Traces.{HasTraced, trace_text}

-- the builder has traced the events that these items hold
abbrev pub HasConverted : ChromeTraceMessageFormat → ChromeTraceGroupBy → Parts
    → List (Result RecordedEvent LineError) → PrintedTrace → Type 0
HasConverted format g version items b =
    (events : List RecordedEvent) × (items ≡ map Ok events)
    × HasTraced format g version (map plain events) b

error_or : ChromeTraceError → Result ⊤ ChromeTraceError → ChromeTraceError
error_or other (Ok u) = other
error_or other (Err e) = e

-- plain events with one event more
plain-push : (events : List RecordedEvent) (event : RecordedEvent)
    → map plain (events ++ event ∷ []) ≡ map plain events ++ plain event ∷ []
plain-push events event = map-append plain events (event ∷ [])

-- ---- one item more

-- calls that gave items, with one call more
yields-push : {S A : Type 0} (steps : S → Option A → S → Type 0) (s : S) (xs : List A) (x : A)
    (t u : S)
    → Yields steps s xs t → steps t (Some x) u → Yields steps s (xs ++ x ∷ []) u
yields-push steps s [] x t u same step = (u, subst (λ v. steps v (Some x) u) (sym same) step, refl)
yields-push steps s (y ∷ xs) x t u (j, first, others) step =
    (j, first, yields-push steps j xs x t u others step)

-- the items of events, with one event more
items-push : (items : List (Result RecordedEvent LineError)) (item : Result RecordedEvent LineError)
    (events : List RecordedEvent) (event : RecordedEvent)
    →
    items ≡ map Ok events → item ≡ Ok event → items ++ item ∷ [] ≡ map Ok (events ++ event ∷ [])
items-push items item events event all is =
    ap (λ v. items ++ v ∷ []) is ∙ ap (λ v. v ++ Ok event ∷ []) all
    ∙ sym (map-append Ok events (event ∷ []))

module _ (format : ChromeTraceMessageFormat) (g : ChromeTraceGroupBy) (version : Parts)
    (b : PrintedTrace) (items : List (Result RecordedEvent LineError))
    (converted : HasConverted format g version items b) where
  -- an event that was traced is converted with those before it
  converted-push : (new : PrintedTrace) (item : Result RecordedEvent LineError)
      (event : RecordedEvent)
      → item ≡ Ok event →
      ((past : List PlainEvent) → HasTraced format g version past b
      → HasTraced format g version (past ++ plain event ∷ []) new)
      → HasConverted format g version (items ++ item ∷ []) new
  converted-push new item event is step =
      let events = converted.0 in
      let has = converted.2 in
      let traced = step (map plain events) has in (
        events ++ event ∷ [],
        items-push items item events event converted.1 is,
        subst (λ v. HasTraced format g version v new) (sym (plain-push events event)) traced,
      )

  -- and so is an item that was added
  pub converted-item : (new : PrintedTrace) (item : Result RecordedEvent LineError) (u : ⊤)
      → AddsItem b new item (Ok u) → HasConverted format g version (items ++ item ∷ []) new
  converted-item new (Ok event) u adds =
      converted-push new (Ok event) event refl (adds format g version)
  converted-item new (Err fault) u adds = cc

  module _ {S : Type 0} (steps : S → Option (Result RecordedEvent LineError) → S → Type 0)
      (s start mid rest : S) (from : start ≡ s) (yields : Yields steps start items mid) where
    -- an event that was refused is the first one
    refused-event : (new : PrintedTrace) (item : Result RecordedEvent LineError)
        (event : RecordedEvent) (e : ChromeTraceError)
        → item ≡ Ok event → steps mid (Some item) rest →
        ((past : List PlainEvent) → HasTraced format g version past b
        → ((e ≡ OutOfMemory) ⊎ (events_refusal g (past ++ plain event ∷ []) ≡ Some e))
        × HasTraced format g version past new)
        → HasNoTrace steps s g e
    refused-event new item event e is step answer =
        let events = converted.0 in
        let has = converted.2 in
        elim (answer (map plain events) has).0 [
          | inl memory ↦ inl memory
          | inr refused ↦ inr (inr (record {
            before = events;
            event = event;
            rest = rest;
            yielded = subst (λ v. Yields steps v (map Ok (events ++ event ∷ [])) rest) from
                (subst (λ v. Yields steps start v rest)
                (items-push items item events event converted.1 is)
                (yields-push steps start items item mid rest yields step));
            accepted = has.tracer.accepted;
            refused = ap (events_refusal g) (plain-push events event) ∙ refused;
          }))
        ]

    -- a fault after events that have a trace
    unread-event : (item : Result RecordedEvent LineError) (fault : LineError)
        (e : ChromeTraceError)
        → item ≡ Err fault → steps mid (Some item) rest → e ≡ fault_error fault
        → HasNoTrace steps s g e
    unread-event item fault e is step answer = go fault is answer
      where
        unread : (fault : LineError) → item ≡ Err fault → e ≡ ReadError fault
            → (fault ≡ faults.OutOfMemory → ⊥) → HasNoTrace steps s g e
        unread fault is answer no_memory = inr (inl (record {
          events = converted.0;
          fault = fault;
          rest = rest;
          yielded = (
            mid,
            subst (λ v. Yields steps v (map Ok converted.0) mid) from
                (subst (λ v. Yields steps start v mid) converted.1 yields),
            subst (λ v. steps mid (Some v) rest) is step,
          );
          answered = answer;
          no_memory = no_memory;
          accepted = converted.2.tracer.accepted;
        }))

        go : (fault : LineError) → item ≡ Err fault → e ≡ fault_error fault → HasNoTrace steps s g e
        go (faults.ReadRunLog n) is answer = unread (faults.ReadRunLog n) is answer (λ same. cc)
        go (faults.ParseEvent n) is answer = unread (faults.ParseEvent n) is answer (λ same. cc)
        go faults.OutOfMemory is answer = inl answer

    -- an item that was not added
    pub refused-item : (new : PrintedTrace) (item : Result RecordedEvent LineError)
        (e : ChromeTraceError)
        → steps mid (Some item) rest → AddsItem b new item (Err e) → HasNoTrace steps s g e
    unfolding error_or
    refused-item new (Ok event) e step adds =
        refused-event new (Ok event) event e refl step (adds format g version)
    refused-item new (Err fault) e step adds =
        unread-event (Err fault) fault e refl step (ap (λ r. error_or e r) adds)

    -- events to the end, and the text of their trace
    pub converts-all : (text : List ℕ) → steps mid None rest →
        ((f : ChromeTraceMessageFormat) (k : ChromeTraceGroupBy) (v : Parts)
        (past : List PlainEvent) → HasTraced f k v past b → text ≡ trace_text f k v past)
        → ((f : ChromeTraceMessageFormat) (k : ChromeTraceGroupBy) (v : Parts)
        (past : List PlainEvent) → HasTraced f k v past b → PrintsTimeline v k past text)
        → Converts steps s g format version text
    converts-all text step written printed =
        let events = converted.0 in
        let has = converted.2 in
        record {
          events = events;
          drained = (
            rest,
            (
              mid,
              subst (λ v. Yields steps v (map Ok events) mid) from
                  (subst (λ v. Yields steps start v mid) converted.1 yields),
              step,
            ),
          );
          accepted = has.tracer.accepted;
          written = written format g version (map plain events) has;
          printed = printed format g version (map plain events) has;
          marks = marks-of-trace version g (map plain events);
          timeline = timeline g (map plain events) has.tracer.accepted;
          times = times-add_up g (map plain events) has.tracer.accepted;
          groupings = groupings-agree (map plain events);
          drawn_alike = groupings-draw_alike version (map plain events);
          prefixes = keeps-drawn version g (map plain events) has.tracer.accepted;
          arrows = arrows-pair version g (map plain events) has.tracer.accepted;
          marks_of_each =
              λ before event later is. marks-of-drawn version g
              (state_after (after [] (history g before))) (known_of g before) event;
          by_places = λ before later is. known-by_places g before;
          named_once = named-once version g (map plain events);
        }
