use Rattle.std.proofs.lemmas.Result.{err_from_is_err_and}
use Rattle.rec_salvage.proofs.metadata.check_metadata.Goals as goal
use Rattle.rec_salvage.proofs.Refused.{first_refused, next_judged, next_refused}

pub returns-in_err-check_part : goal.returns-in_err-check_part
returns-in_err-check_part c =
    let p = err_from_is_err_and c.from_residual.result c.from_residual.ensures.1 in
    rw (p.1, p.2) (first_refused _ _ _ c.in_err-check_part.ensures)

pub returns-in_err-check_rerun_info : goal.returns-in_err-check_rerun_info
returns-in_err-check_rerun_info c =
    let p = err_from_is_err_and c.from_residual-in_err-check_rerun_info.result
    c.from_residual-in_err-check_rerun_info.ensures.1 in
    rw (p.1, p.2) (next_refused _ _ _ c.in_ok-check_part.ensures
    (first_refused _ _ _ c.in_err-check_rerun_info.ensures))

pub returns-in_err-check_part-2 : goal.returns-in_err-check_part-2
returns-in_err-check_part-2 c =
    let p = err_from_is_err_and c.from_residual-in_err-check_part-2.result
    c.from_residual-in_err-check_part-2.ensures.1 in
    rw (p.1, p.2) (next_refused _ _ _ c.in_ok-check_part.ensures (next_refused _ _ _
    c.in_ok-check_rerun_info.ensures (first_refused _ _ _ c.in_err-check_part-2.ensures)))

pub returns-in_err-check_text : goal.returns-in_err-check_text
returns-in_err-check_text c =
    let p = err_from_is_err_and c.from_residual-in_err-check_text.result
    c.from_residual-in_err-check_text.ensures.1 in
    rw (p.1, p.2)
    (next_refused _ _ _ c.in_ok-check_part.ensures
    (next_refused _ _ _ c.in_ok-check_rerun_info.ensures (next_refused _ _ _
    c.in_ok-check_part-2.ensures (first_refused _ _ _ c.in_err-check_text.ensures))))

pub returns : goal.returns
returns c =
    next_judged _ _ _ c.in_ok-check_part.ensures
    (next_judged _ _ _ c.in_ok-check_rerun_info.ensures
    (next_judged _ _ _ c.in_ok-check_part-2.ensures
    (next_judged _ _ _ c.in_ok-check_text.ensures c.check_part-3.ensures)))
