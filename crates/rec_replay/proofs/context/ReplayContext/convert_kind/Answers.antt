use Rattle.rec_replay.proofs.context.ReplayContext.convert_kind.Goals as goal
use Rattle.rec_replay.proofs.Converted.{converts_replays, core_apart}

pub returns-in-Output-clause-refused : goal.returns-in-Output-clause-refused
returns-in-Output-clause-refused g c =
    λ e h. let i = rw c.in-Output.is at h in c.convert_output.ensures.refused e i

pub returns-in-Core-clause-apart : goal.returns-in-Core-clause-apart
returns-in-Core-clause-apart g c = rw c.in-Core.is (core_apart _ _ _ _ c.convert_core.ensures)

pub returns-in-Output-clause-apart : goal.returns-in-Output-clause-apart
returns-in-Output-clause-apart g c = rw c.in-Output.is c.convert_output.ensures.apart

pub returns-in-Core-clause-replays : goal.returns-in-Core-clause-replays
returns-in-Core-clause-replays g c =
    rw c.in-Core.is (converts_replays _ _ _ _ _ _ c.convert_core.ensures)

pub returns-in-Output-clause-replays : goal.returns-in-Output-clause-replays
returns-in-Output-clause-replays g c = rw c.in-Output.is c.convert_output.ensures.replays
