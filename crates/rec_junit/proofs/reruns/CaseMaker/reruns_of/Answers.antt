use Rattle.std.proofs.lemmas.Result.{err_from_is_err_and}
use Rattle.rec_junit.proofs.reruns.CaseMaker.reruns_of.Goals as goal
use Rattle.rec_junit.proofs.RerunSteps.{none_before, rerun_done, rerun_refused, all_done}

pub loop-status-init : goal.loop-status-init
loop-status-init g c = rw c.new-reruns.ensures.items (none_before _)

pub loop-status-preserved : goal.loop-status-preserved
loop-status-preserved g c =
    rerun_done _ _ _ _ c.args.statuses.now c.loop-status.status-index c.loop-status.reruns.items
    c.loop-status.invariant c.status-item.result c.in_ok-rerun.rerun _
    c.loop-status-test.true c.status-item.is c.in_ok-rerun.ensures c.in_ok-push.ensures.items

pub returns-in_err-rerun : goal.returns-in_err-rerun
returns-in_err-rerun g c =
    let p = err_from_is_err_and c.from_residual.result c.from_residual.ensures.1 in
    rw (p.1, p.2) (rerun_refused _ _ _ _ c.args.statuses.now c.loop-status.status-index
    c.loop-status.reruns.items c.loop-status.invariant c.status-item.result c.in_err-rerun.field-0.0
    c.loop-status-test.true c.status-item.is c.in_err-rerun.ensures)

pub returns : goal.returns
returns g c =
    rw c.new.ensures (all_done _ _ _ _ c.args.statuses.now c.loop-status.status-index
    c.loop-status.reruns.items c.loop-status.invariant c.loop-status-test.false)
