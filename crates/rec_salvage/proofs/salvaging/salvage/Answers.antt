use Rattle.rec_salvage.proofs.Refused.{only_refused}
use Rattle.rec_salvage.proofs.salvaging.salvage.Goals as goal
use Rattle.rec_salvage.proofs.Stopped.{nothing_lost}

pub returns-clause-only : goal.returns-clause-only
returns-clause-only c =
    λ es prefix.
    only_refused c.args.store.now es c.salvage_store.result prefix c.salvage_store.ensures.err

pub returns-clause-stopped : goal.returns-clause-stopped
returns-clause-stopped c = λ number m events stopped.
    nothing_lost number m events c.args.run.now c.args.log.now c.args.store.now stopped
    c.salvage_store.result c.salvage_store.ensures.ok c.salvage_store.ensures.err
