use Rattle.std.proofs.Common.{inr}
use Rattle.std.proofs.lemmas.Result.{err_from_is_err_and}
use Rattle.rec_export.proofs.export.export.Goals as goal
use Rattle.rec_export.specs.Prepared.{prepared_bundle}

pub returns-in_err-deliver-clause-err : goal.returns-in_err-deliver-clause-err
returns-in_err-deliver-clause-err g c =
    let number = g.N.OutputNamer.number c.args.namer.now in
    let session = c.in_ok-session.session.items in
    let bundle = prepared_bundle c.in_ok-prepared.prepared in
    let trace = c.in_ok-prepared.prepared.trace.items in
    let are = c.in_ok-prepared.ensures.texts in
    let p = err_from_is_err_and c.from_residual-in_err-deliver.result
    c.from_residual-in_err-deliver.ensures.1 in
    rw (p.1, p.2) (inr
    (inr (session, bundle, trace, c.in_ok-session.ensures.ok, are, c.in_err-deliver.ensures.err)))
