use Rattle.std.proofs.Common.{◌≡◌, Some, ap, subst, sym, ◌∙◌}
use Rattle.serde_json.specs.Read.{read}
use Rattle.rec_trace_events.proofs.event.TraceEvent.value.Goals as goal
use Rattle.rec_trace_events.proofs.EventTexts.{read-event_text}
use Rattle.rec_trace_events.specs.EventTexts.{event_value, IsEventText}

pub value_of_text-requires : goal.value_of_text-requires
value_of_text-requires c =
    let is : IsEventText c.args.self.now = subst IsEventText c.self.view_is c.self.invariant in
    let back : read c.deref.result.now ≡ Some (event_value c.args.self.now) =
    ap read (c.deref.ensures ∙ c.self.view_is) ∙ read-event_text _ is in
    λ none. let both = sym back ∙ none in cc both

pub returns : goal.returns
returns c =
    let is : IsEventText c.args.self.now = subst IsEventText c.self.view_is c.self.invariant in
    let back : read c.deref.result.now ≡ Some (event_value c.args.self.now) =
    ap read (c.deref.ensures ∙ c.self.view_is) ∙ read-event_text _ is in
    c.value_of_text.ensures _ back
