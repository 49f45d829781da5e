use Rattle.rec_salvage.proofs.store.add_metadata.Goals as goal
use Rattle.rec_salvage.proofs.StoreSteps.{five_answered}

pub returns : goal.returns
returns c =
    five_answered _ _ _ _ _ _ _ _ _ _ _ c.add_part-5.result c.in_ok-add_part.ensures
    c.in_ok-add_part-2.ensures c.in_ok-add_part-3.ensures c.in_ok-add_part-4.ensures
    c.add_part-5.ensures
