use Rattle.rec_export.proofs.record.record_event.Goals as goal
use Rattle.rec_export.proofs.Recorded.{always}

pub returns-clause-traced : goal.returns-clause-traced
returns-clause-traced g c =
    λ format group version before had.
    always c.record_traced.result (c.in-Ok.ensures format group version before had)
