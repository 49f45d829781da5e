-- What is printed of a trace, with one event more.
use Rattle.std.proofs.Common.{◌≡◌, ◌⊎◌, inl, inr, List, [], ◌∷◌, ◌++◌, None}
use Rattle.std.proofs.Common.{Some, Result, Ok, Err, ap, sym, subst, ◌∙◌}
use Rattle.std.specs.Bool.{⊤}
use Rattle.semver.specs.Parse.{Parts}
use Rattle.serde_json.specs.Data.{Data}
use Rattle.rec_spans.specs.declared.errors.ChromeTraceError.TheVariants.{OutOfMemory}
use Rattle.rec_spans.specs.declared.errors.ChromeTraceError.{ChromeTraceError}
use Rattle.rec_spans.specs.declared.settings.ChromeTraceGroupBy.{ChromeTraceGroupBy}
use Rattle.rec_spans.specs.History.{after, state_after}
use Rattle.rec_spans.specs.Kinds.{history}
use Rattle.rec_spans.specs.Plain.{PlainEvent}
use Rattle.rec_spans.specs.Refusals.{next_refusal}
use Rattle.rec_trace.proofs.Pushes.{all_events-append, drawn-push}
use Rattle.rec_trace.proofs.Tracing.{advanced, draws-is, refusal-is, stays}
use Rattle.rec_trace.specs.declared.printed_trace.PrintedTrace.{PrintedTrace}
use Rattle.rec_trace.specs.declared.settings.ChromeTraceMessageFormat.{ChromeTraceMessageFormat}
use Rattle.rec_trace.specs.Drawn.{all_events}
use Rattle.rec_trace.specs.Histories.{known_of, trace_drawn}
use Rattle.rec_trace.specs.Kept.{AreKept}
use Rattle.rec_trace.specs.Steps.{StaysSame, draws, seen_by}
use Rattle.rec_trace.specs.Table.{drawn}
use Rattle.rec_trace.specs.Traces.{HasTraced, Prints, Traces}

module _ (format : ChromeTraceMessageFormat) (g : ChromeTraceGroupBy) (version : Parts)
    (events : List PlainEvent) (event : PlainEvent) (old : PrintedTrace)
    (has : HasTraced format g version events old) where
  -- all that is drawn then
  all-drawn : all_events (trace_drawn version g events) ++ draws old.tracer event
      ≡ all_events (trace_drawn version g (events ++ event ∷ []))
  all-drawn =
      ap (λ ds. all_events (trace_drawn version g events) ++ ds)
      (draws-is g version events event old.tracer has.tracer)
      ∙ sym (all_events-append (trace_drawn version g events)
      (drawn version g (state_after (after [] (history g events))) (known_of g events) event))
      ∙ ap all_events (sym (drawn-push version g events event))

  -- an event that was drawn is printed
  pub printed : (mid new : PrintedTrace) (values : List Data) (r : Result ⊤ ChromeTraceError)
      → mid.printed ≡ old.printed
      → next_refusal old.tracer.tracker (seen_by old.tracer event) ≡ None
      → values ≡ draws old.tracer event → Prints values old.tracer event mid new r
      → Traces format g version events event new r
  printed mid new values (Ok u) printed_is none are h = record {
    tracer = advanced g version events event old.tracer has.tracer new.tracer none h.0;
    kept =
        subst (λ ds. AreKept format ds new.printed)
        (ap (λ ds. all_events (trace_drawn version g events) ++ ds) are ∙ all-drawn)
        (h.1 format (all_events (trace_drawn version g events)) (subst
        (AreKept format (all_events (trace_drawn version g events))) (sym printed_is) has.kept));
  }
  printed mid new values (Err e) printed_is none are h = (
    inl h.0,
    record {
      tracer = stays g version events old.tracer new.tracer has.tracer h.1.0;
      kept =
          h.1.1 format (all_events (trace_drawn version g events)) (subst
          (AreKept format (all_events (trace_drawn version g events))) (sym printed_is) has.kept);
    },
  )

  -- an event that was not drawn is refused, or memory ran out, and what was traced stays
  pub not-drawn : (new : PrintedTrace) (e : ChromeTraceError) → new.printed ≡ old.printed
      → StaysSame old.tracer new.tracer
      → ((e ≡ OutOfMemory) ⊎ (next_refusal old.tracer.tracker (seen_by old.tracer event) ≡ Some e))
      → Traces format g version events event new (Err e)
  not-drawn new e printed_is same answer = (
    elim answer [
      | inl memory ↦ inl memory
      | inr cause ↦ inr (refusal-is g version events event old.tracer has.tracer ∙ cause)
    ],
    record {
      tracer = stays g version events old.tracer new.tracer has.tracer same;
      kept =
          subst (AreKept format (all_events (trace_drawn version g events))) (sym printed_is)
          has.kept;
    },
  )
