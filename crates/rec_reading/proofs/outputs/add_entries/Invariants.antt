use Rattle.std.proofs.Common.{drop}
use Rattle.rec_reading.proofs.outputs.add_entries.Given as goal
use Rattle.rec_reading.proofs.OutputsPrinted.{HasPut}

-- what was printed so far
abbrev pub invariant-loop-i : goal.invariant-loop-i
invariant-loop-i l =
    HasPut l.store.entries (drop l.i l.store.entries) l.fn.text.items l.text.items
