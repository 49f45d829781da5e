use Rattle.std.proofs.Common.{ap, ◌∙◌}
use Rattle.rec_events.proofs.text_map.TextMap.insert.Goals as goal
use Rattle.rec_events.specs.PairLaws.{pairs-insert_entry}
use Rattle.rec_events.specs.Pairs.{pairs, put_pair}

pub returns-clause-put : goal.returns-clause-put
returns-clause-put g c =
    ap pairs c.in_ok-insert.ensures.entries
    ∙ pairs-insert_entry c.self.inside.inner.entries c.into_string.result c.args.value
    ∙ ap (λ k. put_pair k c.args.value (pairs c.self.inside.inner.entries)) c.into_string.ensures
    ∙ ap (put_pair c.args.key c.args.value) c.self.view_is
