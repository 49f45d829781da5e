use Rattle.std.proofs.Common.{◌≡◌, ◌++◌, drop}
use Rattle.rec_summaries.proofs.copies.copy_each.Given as goal

-- what is left completes the copies
abbrev pub invariant-loop-status : goal.invariant-loop-status
invariant-loop-status l = l.copies.items ++ drop l.status-index l.statuses ≡ l.statuses
