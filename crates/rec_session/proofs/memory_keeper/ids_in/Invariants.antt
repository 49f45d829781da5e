use Rattle.std.proofs.Common.{◌≡◌, ◌++◌, drop}
use Rattle.rec_session.proofs.memory_keeper.ids_in.Given as goal
use Rattle.rec_session.specs.Keepers.{ids_of}

-- what is left completes the ids
abbrev pub invariant-loop-run : goal.invariant-loop-run
invariant-loop-run l = l.ids.items ++ ids_of (drop l.run-index l.runs) ≡ ids_of l.runs
