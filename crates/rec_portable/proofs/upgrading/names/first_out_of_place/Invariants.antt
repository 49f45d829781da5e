use Rattle.std.proofs.Common.{◌≡◌, drop}
use Rattle.rec_portable.proofs.upgrading.names.first_out_of_place.Given as goal
use Rattle.rec_portable.specs.Upgrading.{first_foreign}

-- those before are in their places
abbrev pub invariant-loop-i : goal.invariant-loop-i
invariant-loop-i l =
    first_foreign 0 l.entries.entries ≡ first_foreign l.i (drop l.i l.entries.entries)
