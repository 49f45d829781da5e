-- Both groupings draw the same of a history but for what the grouping decides.
use Rattle.std.proofs.Common.{◌≡◌, List, [], ◌∷◌, ◌++◌, map, refl, sym, ◌∙◌, ap}
use Rattle.std.proofs.lemmas.List.Concat.{flat_map-append}
use Rattle.std.specs.Option.{option_or, unwrap_or}
use Rattle.semver.specs.Parse.{Parts}
use Rattle.rec_events.specs.Times.{micros}
use Rattle.rec_spans.proofs.Groupings.{past-state, same-change, ungrouped_change}
use Rattle.rec_spans.proofs.Groupings.{ungrouped_input, ungrouped_state}
use Rattle.rec_spans.specs.Acts.{act_of}
use Rattle.rec_spans.specs.declared.settings.ChromeTraceGroupBy.TheVariants.{Binary, Slot}
use Rattle.rec_spans.specs.History.{TraceState, state_after}
use Rattle.rec_spans.specs.Kinds.{change_of, trace_input}
use Rattle.rec_spans.specs.Past.{TraceInput, binaries}
use Rattle.rec_spans.specs.Plain.{PlainEvent}
use Rattle.rec_trace.proofs.Ungrouped.{kind-alike}
use Rattle.rec_trace.specs.Groupings.{all_ungrouped, ungrouped_drawn}
use Rattle.rec_trace.specs.Histories.{drawn_after, known_after_event, trace_drawn}
use Rattle.rec_trace.specs.Known.{Known, arrow_after, group_after}
use Rattle.rec_trace.specs.Known.{nothing_known, run_of, running_of}
use Rattle.rec_trace.specs.Table.{drawn}

-- the same is known but for the names of rows
record AlikeKnown (k l : Known) : Type 0 where
  pub running : k.running ≡ l.running
  pub last_run : k.last_run ≡ l.last_run
  pub group : k.group ≡ l.group
  pub arrow : k.arrow ≡ l.arrow

-- an event draws the same after two pasts that agree but for what the grouping decides
drawn-alike : (version : Parts) (ps qs : List TraceInput) (k l : Known) (event : PlainEvent)
    → map ungrouped_input ps ≡ map ungrouped_input qs → AlikeKnown k l →
    all_ungrouped (drawn version Binary (state_after ps) k event)
    ≡ all_ungrouped (drawn version Slot (state_after qs) l event)
drawn-alike version ps qs k l event same alike =
    let a = state_after ps in
    let b = state_after qs in
    let states : ungrouped_state a ≡ ungrouped_state b =
    sym (past-state ps) ∙ (ap state_after same ∙ past-state qs) in
    let pause = ap (λ (s : TraceState). s.in_pause) states in
    let scripts = ap (λ (s : TraceState). s.scripts) states in
    let flow = ap (λ (s : TraceState). s.next_flow) states in
    let b' : TraceState = record {
      number = b.number;
      in_pause = a.in_pause;
      spans = b.spans;
      binaries = b.binaries;
      scripts = a.scripts;
      next_flow = a.next_flow;
    } in
    let l' : Known = record {
      is_named = l.is_named;
      running = k.running;
      last_run = k.last_run;
      group = k.group;
      arrow = k.arrow;
    } in
    let to_b : b' ≡ b = λ i. record {
      number = b.number;
      in_pause = pause i;
      spans = b.spans;
      binaries = b.binaries;
      scripts = scripts i;
      next_flow = flow i;
    } in
    let to_l : l' ≡ l = λ i. record {
      is_named = l.is_named;
      running = alike.running i;
      last_run = alike.last_run i;
      group = alike.group i;
      arrow = alike.arrow i;
    } in
    kind-alike version a.in_pause a.number b.number a.spans b.spans a.binaries b.binaries a.scripts
    a.next_flow k.is_named l.is_named k.running k.last_run k.group k.arrow (micros event.timestamp)
    (ap (λ (s : TraceState). s.spans) states) event.kind
    ∙ (ap (λ (s : TraceState). all_ungrouped (drawn version Slot s l' event)) to_b
    ∙ ap (λ (m : Known). all_ungrouped (drawn version Slot b m event)) to_l)

-- two pasts and what is known agree after one event more
inputs-alike : (ps qs : List TraceInput) (event : PlainEvent)
    → map ungrouped_input ps ≡ map ungrouped_input qs →
    map ungrouped_input (trace_input Binary (binaries ps) event ∷ ps)
    ≡ map ungrouped_input (trace_input Slot (binaries qs) event ∷ qs)
inputs-alike ps qs event same =
    let act = act_of event.kind in
    let seen : binaries ps ≡ binaries qs = ap (λ (s : TraceState). s.binaries)
    (sym (past-state ps) ∙ (ap state_after same ∙ past-state qs)) in
    let changes : ungrouped_change (change_of Binary (binaries ps) act)
    ≡ ungrouped_change (change_of Slot (binaries qs) act) =
    same-change (binaries ps) act ∙ ap (λ v. ungrouped_change (change_of Slot v act)) seen in
    λ i. record { at = micros event.timestamp; act = act; change = changes i } ∷ same i

known-alike : (ps qs : List TraceInput) (k l : Known) (event : PlainEvent)
    → map ungrouped_input ps ≡ map ungrouped_input qs → AlikeKnown k l
    → AlikeKnown (known_after_event Binary ps event k) (known_after_event Slot qs event l)
known-alike ps qs k l event same alike =
    let flow = ap (λ (s : TraceState). s.next_flow)
    (sym (past-state ps) ∙ (ap state_after same ∙ past-state qs)) in
    record {
      running = ap (unwrap_or (running_of event.kind)) alike.running;
      last_run = ap (option_or (run_of event.kind)) alike.last_run;
      group = ap (group_after event.kind) alike.group;
      arrow = λ i. arrow_after (flow i) event.kind (alike.arrow i);
    }

after-alike : (version : Parts) (ps qs : List TraceInput) (k l : Known) (events : List PlainEvent)
    → map ungrouped_input ps ≡ map ungrouped_input qs → AlikeKnown k l →
    all_ungrouped (drawn_after version Binary ps k events)
    ≡ all_ungrouped (drawn_after version Slot qs l events)
after-alike version ps qs k l [] same alike = refl
after-alike version ps qs k l (event ∷ events) same alike =
    let ps' = trace_input Binary (binaries ps) event ∷ ps in
    let qs' = trace_input Slot (binaries qs) event ∷ qs in
    let k' = known_after_event Binary ps event k in
    let l' = known_after_event Slot qs event l in
    let now = drawn-alike version ps qs k l event same alike in
    let rest = after-alike version ps' qs' k' l' events (inputs-alike ps qs event same)
    (known-alike ps qs k l event same alike) in
    flat_map-append ungrouped_drawn (drawn version Binary (state_after ps) k event)
    (drawn_after version Binary ps' k' events)
    ∙ ((λ i. now i ++ rest i)
    ∙ sym (flat_map-append ungrouped_drawn (drawn version Slot (state_after qs) l event)
    (drawn_after version Slot qs' l' events)))

-- both groupings draw the same of a history but for what the grouping decides
pub groupings-draw_alike : (version : Parts) (events : List PlainEvent)
    → all_ungrouped (trace_drawn version Binary events)
    ≡ all_ungrouped (trace_drawn version Slot events)
groupings-draw_alike version events =
    after-alike version [] [] nothing_known nothing_known events refl
    (record { running = refl; last_run = refl; group = refl; arrow = refl })
