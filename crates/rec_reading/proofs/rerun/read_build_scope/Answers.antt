use Rattle.std.proofs.Common.{refl}
use Rattle.std.proofs.lemmas.Result.{err_from_is_err_and}
use Rattle.rec_reading.proofs.Opened.{part-refused, same-store}
use Rattle.rec_reading.proofs.rerun.read_build_scope.Goals as goal

pub returns-in_err-read_build_scope-clause-scope : goal.returns-in_err-read_build_scope-clause-scope
returns-in_err-read_build_scope-clause-scope c =
    let p = err_from_is_err_and c.from_residual.result c.from_residual.ensures.1 in
    let e = c.in_err-read_build_scope in
    rw (p.1, p.2)
    (part-refused _ _ (e.ensures.answer c.args.store.now.entries refl) e.ensures.cause.failed)

pub returns-in_err-read_build_scope-clause-same : goal.returns-in_err-read_build_scope-clause-same
returns-in_err-read_build_scope-clause-same c =
    same-store _ _ c.in_err-read_build_scope.ensures.same

pub returns-clause-same : goal.returns-clause-same
returns-clause-same c = same-store _ _ c.in_ok-read_build_scope.ensures.same
