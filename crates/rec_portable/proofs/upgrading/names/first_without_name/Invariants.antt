use Rattle.std.proofs.Common.{◌≡◌, ℕ, List, drop}
use Rattle.rec_store.specs.JudgedParts.{first_unnamed}
use Rattle.rec_portable.proofs.upgrading.names.first_without_name.Given as goal
use Rattle.rec_portable.specs.Rewriting.{ArePaths}

-- each of those before has a place
abbrev pub invariant-loop-i : goal.invariant-loop-i
invariant-loop-i l =
    (named : List (List ℕ)) → ArePaths named l.paths
    → first_unnamed named l.entries.entries ≡ first_unnamed named (drop l.i l.entries.entries)
