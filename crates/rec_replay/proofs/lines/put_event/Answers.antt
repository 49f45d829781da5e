use Rattle.rec_replay.proofs.lines.put_event.Goals as goal
use Rattle.rec_replay.proofs.LineSteps.{◌▸◌}

-- the texts of the calls, one after the other
pub returns : goal.returns
returns c =
    rw (← c.as_bytes.ensures.value) (c.put_stamp.ensures ▸ c.put.ensures ▸ c.put-2.ensures ▸
    c.put_subject.ensures ▸ c.put_outputs.ensures ▸ c.put-3.ensures)
