use Rattle.std.proofs.Common.{◌++◌, ◌∙◌, ap}
use Rattle.rec_json.specs.Tokens.{value_tokens}
use Rattle.rec_codec.specs.EventForms.{event_value}
use Rattle.rec_codec.specs.Live.{live_value}
use Rattle.rec_sample.proofs.session.event_text.Goals as goal
use Rattle.rec_sample.specs.Session.{event_text}

pub returns : goal.returns
unfolding event_text
returns c =
    let value = event_value live_value c.args.event.now in
    c.into_text.ensures.compact value
    (c.in_ok-write_loaded.ensures ∙ ap (λ ts. ts ++ value_tokens value) c.new-text.ensures)
