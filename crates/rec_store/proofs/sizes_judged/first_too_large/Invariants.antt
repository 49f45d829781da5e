use Rattle.std.proofs.Common.{◌≡◌, drop}
use Rattle.rec_store.proofs.sizes_judged.first_too_large.Given as goal
use Rattle.rec_store.specs.SizesJudged.{first_too_large}

-- what is too large among those left is what is among all
abbrev pub invariant-loop-i : goal.invariant-loop-i
invariant-loop-i g l =
    first_too_large l.limit (drop l.i l.entries.entries) ≡ first_too_large l.limit l.entries.entries
