use Rattle.std.proofs.Common.{[], ◌∷◌, ◌++◌, ◌∙◌, ap}
use Rattle.rec_session.proofs.memory_keeper.prefix_among.Goals as goal
use Rattle.rec_session.proofs.RunIdLists.{cut_found, cut_missing}
use Rattle.rec_session.specs.Keepers.{ids_of}

pub unreachable-requires : goal.unreachable-requires
unreachable-requires c =
    let whole = c.deref.ensures.value ∙ c.in_ok-push.ensures.items
    ∙ ap (λ l. l ++ c.args.run_id ∷ []) c.in_ok-ids.ensures in
    cut_missing c.in_ok-index.index c.deref.result.now (ids_of c.args.runs.now)
    c.args.run_id c.in_ok-index.ensures whole
    c.in_ok-prefix.field-0 c.in_ok-prefix.ensures c.in-None.is

pub returns : goal.returns
returns c =
    let whole = c.deref.ensures.value ∙ c.in_ok-push.ensures.items
    ∙ ap (λ l. l ++ c.args.run_id ∷ []) c.in_ok-ids.ensures in
    cut_found c.in_ok-index.index c.deref.result.now (ids_of c.args.runs.now)
    c.args.run_id c.in_ok-index.ensures whole
    c.in_ok-prefix.field-0 c.in-Some.prefix c.in_ok-prefix.ensures c.in-Some.is
