use Rattle.std.proofs.lemmas.Result.{err_from_is_err_and}
use Rattle.rec_replay.proofs.Loaded.{loads_as, loads_error, loads_short}
use Rattle.rec_replay.proofs.loading.load_script_status.Goals as goal

pub returns-in_err-copied-clause-loads : goal.returns-in_err-copied-clause-loads
returns-in_err-copied-clause-loads g c =
    let p = err_from_is_err_and c.from_residual.result c.from_residual.ensures.1 in
    rw (p.1, p.2) (loads_short _ _ _ _ _)

pub returns-in-Err-clause-loads : goal.returns-in-Err-clause-loads
returns-in-Err-clause-loads g c = loads_error _ _ _ _ _ _ _ _ _ _ c.in-Err.ensures.loads

pub returns-clause-loads : goal.returns-clause-loads
returns-clause-loads g c =
    loads_as _ _ _ _ _ _ _ _ _ _ _ (λ es is. rw (is, c.in_ok-copied.ensures)) c.in-Ok.ensures.loads

pub returns-clause-apart : goal.returns-clause-apart
returns-clause-apart g c = rw (c.in-Ok.ensures.apart, c.in_ok-copied.ensures)
