use Rattle.std.proofs.Common.{◌≡◌, ◌++◌, drop, map}
use Rattle.rec_container.specs.NamedContents.{entry_of}
use Rattle.rec_salvage.proofs.store.add_named.Given as goal
use Rattle.rec_salvage.specs.Keeping.{entries_in}

-- what is left completes the entries
abbrev pub invariant-loop-i : goal.invariant-loop-i
invariant-loop-i l =
    map entry_of l.contents.items ++ entries_in l.paths (drop l.i l.prefix.entries)
    ≡ map entry_of l.fn.contents.items ++ entries_in l.paths l.prefix.entries
