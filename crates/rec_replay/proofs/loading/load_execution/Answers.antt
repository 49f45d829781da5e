use Rattle.std.proofs.lemmas.Result.{err_from_is_err_and}
use Rattle.rec_replay.proofs.Loaded.{loads_as, loads_error, loads_short}
use Rattle.rec_replay.proofs.loading.load_execution.Goals as goal

pub returns-in_err-copied-in-Output-clause-loads : goal.returns-in_err-copied-in-Output-clause-loads
returns-in_err-copied-in-Output-clause-loads g c =
    let p = err_from_is_err_and c.from_residual.result c.from_residual.ensures.1 in
    rw (p.1, p.2) (loads_short _ _ _ _ _)

pub returns-in_err-message-in-StartError-clause-loads :
    goal.returns-in_err-message-in-StartError-clause-loads
returns-in_err-message-in-StartError-clause-loads g c =
    let p = err_from_is_err_and c.from_residual-in_err-message-in-StartError.result
    c.from_residual-in_err-message-in-StartError.ensures.1 in
    rw (p.1, p.2) (loads_short _ _ _ _ _)

pub returns-in-Ok-clause-loads : goal.returns-in-Ok-clause-loads
returns-in-Ok-clause-loads g c =
    rw c.in-Output.is (loads_as _ _ _ _ _ _ _ _ _ _ _
    (λ es is. rw (is, c.in_ok-copied-in-Output.ensures.copies)) c.in-Ok.ensures.loads)

pub returns-in-Ok-clause-apart : goal.returns-in-Ok-clause-apart
returns-in-Ok-clause-apart g c = rw (c.in-Output.is, c.in_ok-copied-in-Output.ensures.copies)

pub returns-in-Err-clause-loads : goal.returns-in-Err-clause-loads
returns-in-Err-clause-loads g c =
    rw c.in-Output.is (loads_error _ _ _ _ _ _ _ _ _ _ c.in-Err.ensures.loads)
