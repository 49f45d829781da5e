use Rattle.std.proofs.Common.{refl}
use Rattle.rec_slots.proofs.laws.gaps_add_up.Goals as goal
use Rattle.rec_slots.proofs.Sums.{all_kinds}

pub returns : goal.returns
returns c =
    λ instant kind a n.
    record { busy_is = refl; paused_is = refl; idle_is = refl; sum = all_kinds instant kind a n }
