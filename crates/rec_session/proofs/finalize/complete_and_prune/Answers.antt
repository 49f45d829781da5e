use Rattle.rec_session.proofs.finalize.complete_and_prune.Goals as goal
use Rattle.rec_session.proofs.WarningCauses.{are_caused}

pub returns-clause-cause : goal.returns-clause-cause
returns-clause-cause g c =
    rw c.new.ensures (are_caused _ (g.K.RunKeeper.faults c.complete.new.keeper)
    _ c.in_ok-warning.warning c.prune.result c.in_ok-warnings.warnings.items _ _
    c.complete.ensures.later c.in_ok-warning.ensures.cause c.in_ok-warnings.ensures
    c.prune.ensures.cause c.in_ok-prune_result.ensures)
