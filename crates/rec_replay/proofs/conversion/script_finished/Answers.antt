use Rattle.std.proofs.Common.{refl}
use Rattle.rec_replay.proofs.conversion.script_finished.Goals as goal
use Rattle.rec_replay.proofs.Converted.{replays_loaded, replays_unread}

pub returns-in-Err-clause-replays : goal.returns-in-Err-clause-replays
returns-in-Err-clause-replays g c =
    rw (c.from.ensures, c.in-SetupScriptFinished.is)
    (replays_unread _ _ _ _ _ _ _ _ _ _ _ refl c.in-Err.ensures.loads)

pub returns-clause-replays : goal.returns-clause-replays
returns-clause-replays g c =
    rw c.in-SetupScriptFinished.is (replays_loaded _ _ _ _ _ _ _ _ _ _ _ _ refl
    (λ es h. rw (h, c.replay_index.ensures, c.in_ok-named.ensures)) c.in-Ok.ensures.loads)

pub returns-clause-apart : goal.returns-clause-apart
returns-clause-apart g c =
    rw (
      c.in-SetupScriptFinished.is,
      c.replay_index.ensures,
      c.in_ok-named.ensures,
      c.in-Ok.ensures.apart,
    )
