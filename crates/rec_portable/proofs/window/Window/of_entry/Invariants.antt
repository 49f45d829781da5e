use Rattle.std.proofs.Common.{◌≡◌, drop}
use Rattle.rec_container.specs.Container.{content_of}
use Rattle.rec_portable.proofs.window.Window.of_entry.Given as goal

-- the name is that of none of the entries before
abbrev pub invariant-loop-i : goal.invariant-loop-i
invariant-loop-i l =
    content_of l.entries.entries l.name ≡ content_of (drop l.i l.entries.entries) l.name
