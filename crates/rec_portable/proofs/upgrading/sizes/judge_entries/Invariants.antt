use Rattle.std.proofs.Common.{◌≡◌, drop, map}
use Rattle.rec_container.specs.NamedContents.{entry_of}
use Rattle.rec_portable.proofs.upgrading.sizes.judge_entries.Given as goal
use Rattle.rec_portable.specs.Upgrading.{entries_refusal}

-- the rest decides
abbrev pub invariant-loop-content : goal.invariant-loop-content
invariant-loop-content l =
    entries_refusal l.limit (map entry_of l.contents)
    ≡ entries_refusal l.limit (map entry_of (drop l.content-index l.contents))
