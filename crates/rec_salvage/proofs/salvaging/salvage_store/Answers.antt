use Rattle.std.proofs.lemmas.Result.{IfOk-at_ok}
use Rattle.rec_salvage.proofs.KeptBundle.{salvages}
use Rattle.rec_salvage.proofs.Refused.{refused}
use Rattle.rec_salvage.proofs.salvaging.salvage_store.Goals as goal

pub returns-in-Err-clause-err : goal.returns-in-Err-clause-err
returns-in-Err-clause-err c =
    refused c.args.store.now _ _ c.in_ok-prefix.ensures.ok c.in-Err.ensures

pub returns-clause-ok : goal.returns-clause-ok
returns-clause-ok c =
    salvages c.args.run.now c.args.log.now c.args.store.now _ _ c.in_ok-prefix.ensures.ok
    c.in_default.ensures (IfOk-at_ok _ c.in_ok-kept.was c.keep-kept.ensures)
