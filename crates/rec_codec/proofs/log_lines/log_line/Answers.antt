use Rattle.std.proofs.Common.{◌++◌, ap, refl, ◌∙◌}
use Rattle.rec_json.specs.Tokens.{value_tokens}
use Rattle.rec_forms.specs.Outputs.{stored_outputs_value}
use Rattle.rec_codec.proofs.log_lines.log_line.Goals as goal
use Rattle.rec_codec.proofs.LogLaws.{event_logged}
use Rattle.rec_codec.specs.Event.{event_text}
use Rattle.rec_codec.specs.EventForms.{event_value}

pub returns-clause-line : goal.returns-clause-line
unfolding event_text
returns-clause-line c =
    let value = event_value stored_outputs_value c.args.event.now in
    let alone = c.in_ok-write_recorded.ensures.written
    ∙ ap (λ ts. ts ++ value_tokens value) c.new-text.ensures in
    rw (c.in_ok-push.ensures.items, c.into_bytes-line.ensures.compact value alone) refl

pub returns-clause-logged : goal.returns-clause-logged
returns-clause-logged c = event_logged c.args.event.now c.in_ok-write_recorded.ensures.known
