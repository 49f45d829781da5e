use Rattle.rec_store.proofs.ReadLaws.{all_logged}
use Rattle.rec_portable.proofs.laws.recorded_stay.Goals as goal
use Rattle.rec_portable.proofs.UpgradeLaws.{recorded_again}

pub returns : goal.returns
returns c number m head events is are in_range agree small q has =
    recorded_again number m head events is (all_logged number m in_range events are) agree small
    c.one_record.ensures (c.recordings_are_written.ensures.bytes number m head events) q has
