-- What a tracer stands for, with one event more.
use Rattle.std.proofs.Common.{◌≡◌, List, [], ◌∷◌, ◌++◌, None, ap, sym, ◌∙◌}
use Rattle.semver.specs.Parse.{Parts}
use Rattle.rec_spans.proofs.Histories.{history-push}
use Rattle.rec_spans.proofs.Pushes.{events_refusal-push, state-push}
use Rattle.rec_spans.specs.declared.settings.ChromeTraceGroupBy.{ChromeTraceGroupBy}
use Rattle.rec_spans.specs.History.{TraceState, after, next_state, state_after}
use Rattle.rec_spans.specs.Kinds.{history, next_input, trace_input}
use Rattle.rec_spans.specs.Past.{TraceInput}
use Rattle.rec_spans.specs.Plain.{PlainEvent}
use Rattle.rec_spans.specs.Refusals.{events_refusal, next_refusal}
use Rattle.rec_trace.proofs.Pushes.{known-push}
use Rattle.rec_trace.proofs.Same.{same-is}
use Rattle.rec_trace.specs.Building.{shown}
use Rattle.rec_trace.specs.declared.tracer.Tracer.{Tracer}
use Rattle.rec_trace.specs.Drawn.{all_events}
use Rattle.rec_trace.specs.Histories.{known_after_event, known_of}
use Rattle.rec_trace.specs.Known.{next_known}
use Rattle.rec_trace.specs.KnownNews.{known_in}
use Rattle.rec_trace.specs.Standing.{StandsFor}
use Rattle.rec_trace.specs.Steps.{Advances, StaysSame, draws, seen_by}
use Rattle.rec_trace.specs.Table.{drawn}

-- what stays as it was stands for the same
pub stays : (g : ChromeTraceGroupBy) (version : Parts) (events : List PlainEvent) (old new : Tracer)
    → StandsFor g version events old → StaysSame old new → StandsFor g version events new
stays g version events old new has same = record {
  group_kept = same.group ∙ has.group_kept;
  version_kept = same.version ∙ has.version_kept;
  stands = same.stands ∙ has.stands;
  knows = same-is same.knows ∙ has.knows;
  each_says = same.each_says has.each_says;
  accepted = has.accepted;
}

module _ (g : ChromeTraceGroupBy) (version : Parts) (events : List PlainEvent) (event : PlainEvent)
    (old : Tracer) (has : StandsFor g version events old) where
  abbrev past : List TraceInput
  past = after [] (history g events)

  abbrev input : TraceInput
  input = next_input g (history g events) event

  -- the event as the tracer sees it
  input-is : seen_by old event ≡ input
  input-is =
      ap (λ k. trace_input k old.tracker.binaries event) has.group_kept
      ∙ ap (λ (k : TraceState). trace_input g k.binaries event) has.stands

  -- the tracer refuses it as the history does
  pub refusal-is : events_refusal g (events ++ event ∷ [])
      ≡ next_refusal old.tracker (seen_by old event)
  refusal-is =
      events_refusal-push g events event has.accepted
      ∙ ap (λ k. next_refusal k input) (sym has.stands)
      ∙ ap (next_refusal old.tracker) (sym input-is)

  -- what the event draws, as the tracer draws it
  pub draws-is : draws old event ≡ shown version g events event
  draws-is =
      ap (λ v. all_events (drawn v old.group_by old.tracker (known_in old.known) event))
      has.version_kept
      ∙ ap (λ k. all_events (drawn version k old.tracker (known_in old.known) event)) has.group_kept
      ∙ ap (λ k. all_events (drawn version g k (known_in old.known) event)) has.stands
      ∙ ap (λ k. all_events (drawn version g (state_after past) k event)) has.knows

  -- what is known then
  all-known : next_known old.tracker.next_flow (seen_by old event) event.kind (known_in old.known)
      ≡ known_of g (events ++ event ∷ [])
  all-known =
      ap (λ i. next_known old.tracker.next_flow i event.kind (known_in old.known)) input-is
      ∙ ap (λ (k : TraceState). next_known k.next_flow input event.kind (known_in old.known))
      has.stands
      ∙ ap (known_after_event g past event) has.knows
      ∙ sym (known-push g events event)

  -- an event that was accepted is one of those for which the tracer stands
  pub advanced : (new : Tracer) → next_refusal old.tracker (seen_by old event) ≡ None
      → Advances old event new → StandsFor g version (events ++ event ∷ []) new
  advanced new none moves = record {
    group_kept = moves.group ∙ has.group_kept;
    version_kept = moves.version ∙ has.version_kept;
    stands = moves.stands
        ∙ ap (λ i. next_state i old.tracker) input-is
        ∙ ap (next_state input) has.stands
        ∙ sym (ap (λ h. state_after (after [] h)) (history-push g events event)
        ∙ state-push (history g events) input);
    knows = same-is moves.knows ∙ all-known;
    each_says = moves.each_says has.each_says;
    accepted = refusal-is ∙ none;
  }
