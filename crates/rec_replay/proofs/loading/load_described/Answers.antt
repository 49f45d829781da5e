use Rattle.std.proofs.lemmas.Result.{err_from_is_err_and}
use Rattle.rec_replay.proofs.Loaded.{loads_after, loads_before, loads_both}
use Rattle.rec_replay.proofs.loading.load_described.Goals as goal

pub returns-in_err-stdout-in-Split-clause-loads : goal.returns-in_err-stdout-in-Split-clause-loads
returns-in_err-stdout-in-Split-clause-loads g c =
    let p = err_from_is_err_and c.from_residual.result c.from_residual.ensures.1 in
    rw (p.1, p.2, c.in-Split.is)
    (loads_before _ _ _ _ _ _ _ _ _ _ _ c.in_err-stdout-in-Split.ensures.loads)

pub returns-in_err-stderr-in-Split-clause-loads : goal.returns-in_err-stderr-in-Split-clause-loads
returns-in_err-stderr-in-Split-clause-loads g c =
    let p = err_from_is_err_and c.from_residual-in_err-stderr-in-Split.result
    c.from_residual-in_err-stderr-in-Split.ensures.1 in
    rw (p.1, p.2, c.in-Split.is) (loads_after _ _ _ _ _ _ _ _ _ _ _ _ _ _ _
    c.in_ok-stdout-in-Split.ensures.loads _ c.in_err-stderr-in-Split.ensures.loads)

pub returns-in_ok-stderr-in-Split-clause-loads : goal.returns-in_ok-stderr-in-Split-clause-loads
returns-in_ok-stderr-in-Split-clause-loads g c =
    rw c.in-Split.is (loads_both _ _ _ _ _ _ _ _ _ _ _ _ _ _ _ c.in_ok-stdout-in-Split.ensures.loads
    _ _ (λ es out err. rw (out, err)) c.in_ok-stderr-in-Split.ensures.loads)
