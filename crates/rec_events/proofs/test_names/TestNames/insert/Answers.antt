use Rattle.std.proofs.Common.{ap, ◌∙◌}
use Rattle.rec_events.proofs.test_names.TestNames.insert.Goals as goal
use Rattle.rec_events.specs.Names.{texts, with_name}
use Rattle.rec_events.specs.PairLaws.{texts-insert_key}

pub returns-clause-put : goal.returns-clause-put
returns-clause-put c =
    ap texts c.in_ok-insert.ensures.keys
    ∙ texts-insert_key c.self.inside.inner.keys c.into_string.result
    ∙ ap (with_name (texts c.self.inside.inner.keys)) c.into_string.ensures
    ∙ ap (λ ks. with_name ks c.args.name) c.self.view_is
