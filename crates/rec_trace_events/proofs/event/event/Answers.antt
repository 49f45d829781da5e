use Rattle.std.proofs.Common.{◌≡◌, ap, ◌∙◌}
use Rattle.std.specs.Prelude.{◌++◌, option_copied, option_map}
use Rattle.rec_json.specs.Tokens.{value_tokens}
use Rattle.rec_trace_events.proofs.event.event.Goals as goal
use Rattle.rec_trace_events.proofs.EventTexts.{event_value-written, IsEventText-written}
use Rattle.rec_trace_events.specs.EventParts.{event_of}

pub invariant_of-result : goal.invariant_of-result
invariant_of-result g c =
    let args = option_map g.A.Args.value_of (option_copied c.args.args) in
    let tokens : c.write_event.new.text ≡ value_tokens (event_of c.args.parts.now args) =
    c.in_ok-write_event.ensures.written
    ∙ ap (λ ts. ts ++ value_tokens (event_of c.args.parts.now args)) c.new-text.ensures in
    IsEventText-written _ _ (c.into_text.ensures.compact _ tokens) c.in_ok-write_event.ensures.known

pub returns : goal.returns
returns g c =
    let args = option_map g.A.Args.value_of (option_copied c.args.args) in
    let tokens : c.write_event.new.text ≡ value_tokens (event_of c.args.parts.now args) =
    c.in_ok-write_event.ensures.written
    ∙ ap (λ ts. ts ++ value_tokens (event_of c.args.parts.now args)) c.new-text.ensures in
    event_value-written _ _ (c.into_text.ensures.compact _ tokens) c.in_ok-write_event.ensures.known
