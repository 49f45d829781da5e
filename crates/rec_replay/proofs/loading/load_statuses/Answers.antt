use Rattle.std.proofs.lemmas.Result.{err_from_is_err_and}
use Rattle.rec_replay.proofs.Loaded.{loads_as, loads_error}
use Rattle.rec_replay.proofs.loading.load_statuses.Goals as goal

pub returns-in_err-loaded-clause-loads : goal.returns-in_err-loaded-clause-loads
returns-in_err-loaded-clause-loads g c =
    let p = err_from_is_err_and c.from_residual.result c.from_residual.ensures.1 in
    let h = c.in_err-loaded.ensures.loads in
    let loads = rw c.as_slice.ensures.value at h in
    rw (p.1, p.2) (loads_error _ _ _ _ _ _ _ _ _ _ loads)

pub returns-clause-loads : goal.returns-clause-loads
returns-clause-loads g c =
    let h = c.in_ok-loaded.ensures.loads in
    let loads = rw c.as_slice.ensures.value at h in
    loads_as _ _ _ _ _ _ _ _ _ _ _ (λ es is. rw (c.new.ensures, c.into_vec.ensures, is)) loads

pub returns-clause-apart : goal.returns-clause-apart
returns-clause-apart g c =
    let h = c.in_ok-loaded.ensures.apart in
    let apart = rw c.as_slice.ensures.value at h in
    rw (c.new.ensures, c.into_vec.ensures, apart)
