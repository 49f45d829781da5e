use Rattle.rec_replay.proofs.context.ReplayContext.replay.Goals as goal
use Rattle.rec_replay.proofs.Converted.{replays_as}

pub returns-clause-replays : goal.returns-clause-replays
returns-clause-replays g c =
    replays_as _ _ _ _ _ _ _ _ _ _ _ _ (λ es h. rw h) c.in_ok-kind.ensures.replays

pub returns-clause-apart : goal.returns-clause-apart
returns-clause-apart g c = rw c.in_ok-kind.ensures.apart
