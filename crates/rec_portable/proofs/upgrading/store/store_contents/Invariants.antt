use Rattle.std.proofs.Common.{◌≡◌, ◌++◌, drop, map}
use Rattle.rec_container.specs.NamedContents.{entry_of}
use Rattle.rec_portable.proofs.upgrading.store.store_contents.Given as goal
use Rattle.rec_portable.specs.Rewriting.{other_entries, text_entries}

-- the outputs that are left complete the store
abbrev pub invariant-loop-i : goal.invariant-loop-i
invariant-loop-i l =
    map entry_of l.contents.items ++ other_entries (drop l.i l.entries.entries)
    ≡ text_entries l.metadata ++ other_entries l.entries.entries
