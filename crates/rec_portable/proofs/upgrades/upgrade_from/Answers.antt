use Rattle.std.proofs.Common.{◌≡◌, ◌⊎◌, IfOk, IfErr, Result, refl, subst}
use Rattle.std.proofs.lemmas.Result.{err_from_is_err_and}
use Rattle.rec_store.specs.RunParts.{RunParts}
use Rattle.rec_portable.proofs.upgrades.upgrade_from.Goals as goal
use Rattle.rec_portable.proofs.UpgradeSteps.{delivered, not_delivered, not_opened, not_rewritten}
use Rattle.rec_portable.specs.declared.upgrade_error.UpgradeError.TheVariants.{OutOfMemory}
use Rattle.rec_portable.specs.declared.upgrade_error.UpgradeError.{UpgradeError}
use Rattle.rec_portable.specs.declared.upgrading.Rewritten.{Rewritten}
use Rattle.rec_portable.specs.Rewriting.{IsRewritten}
use Rattle.rec_portable.specs.Upgrading.{IsAccepted, IsRefused}

pub returns-in_err-recording-clause-err : goal.returns-in_err-recording-clause-err
returns-in_err-recording-clause-err g c =
    let p = err_from_is_err_and c.from_residual.result c.from_residual.ensures.1 in
    rw (p.1, p.2)
    (not_opened g.S.Source.left g.S.Source.faults g.B.Sink.taken g.B.Sink.faults c.args.spool_limit
    c.args.read_limit c.args.source.now c.open.new.source _ _ _ refl c.in_err-recording.ensures.err)

pub returns-in_err-rewritten-clause-err : goal.returns-in_err-rewritten-clause-err
returns-in_err-rewritten-clause-err g c =
    let o = c.in_ok-recording.recording in
    let refused = subst (λ (r : Result Rewritten UpgradeError).
    IfErr r (λ e. (e ≡ OutOfMemory) ⊎ IsRefused o.bytes o.limit e))
    c.in_err-rewritten.was c.rewrite-rewritten.ensures.err in
    let p = err_from_is_err_and c.from_residual-in_err-rewritten.result
    c.from_residual-in_err-rewritten.ensures.1 in
    rw (p.1, p.2) (not_rewritten g.S.Source.left g.S.Source.faults g.B.Sink.taken g.B.Sink.faults
    c.args.spool_limit c.args.read_limit c.args.source.now c.open.new.source _ o
    c.in_ok-recording.ensures.ok _ _ refused)

pub returns-in-Err-clause-err : goal.returns-in-Err-clause-err
returns-in-Err-clause-err g c =
    let o = c.in_ok-recording.recording in
    let made = subst (λ (r : Result Rewritten UpgradeError).
    IfOk r (λ x. (p : RunParts) × IsAccepted o.bytes o.limit p × IsRewritten p x))
    c.in_ok-rewritten.was c.rewrite-rewritten.ensures.ok in
    not_delivered g.S.Source.left g.S.Source.faults g.B.Sink.taken g.B.Sink.faults
    c.args.spool_limit c.args.read_limit c.args.source.now c.open.new.source _ o
    c.in_ok-recording.ensures.ok made.0 _ made.1 made.2 _ _ _ c.in-Err.ensures.err

pub returns-clause-ok : goal.returns-clause-ok
returns-clause-ok g c =
    let o = c.in_ok-recording.recording in
    let made = subst (λ (r : Result Rewritten UpgradeError).
    IfOk r (λ x. (p : RunParts) × IsAccepted o.bytes o.limit p × IsRewritten p x))
    c.in_ok-rewritten.was c.rewrite-rewritten.ensures.ok in
    delivered g.S.Source.left g.S.Source.faults g.B.Sink.taken g.B.Sink.faults c.args.spool_limit
    c.args.read_limit c.args.source.now c.open.new.source _ o c.in_ok-recording.ensures.ok made.0 _
    made.1 made.2 _ _ c.accepted_bundles_are_read.ensures c.in_default.ensures.ok
