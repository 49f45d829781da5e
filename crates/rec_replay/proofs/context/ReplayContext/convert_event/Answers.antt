use Rattle.rec_replay.proofs.context.ReplayContext.convert_event.Goals as goal
use Rattle.rec_replay.proofs.Converted.{converts_skipped}

pub returns-clause-skipped : goal.returns-clause-skipped
returns-clause-skipped g c =
    λ h.
    (c.replay.ensures.skipped h, converts_skipped _ h _ _ _ _ _ _ _ _ _ _ c.replay.ensures.replays)
