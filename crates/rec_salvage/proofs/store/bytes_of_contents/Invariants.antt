use Rattle.std.proofs.Common.{◌≡◌, map, take}
use Rattle.rec_container.specs.Container.{content_bytes}
use Rattle.rec_container.specs.NamedContents.{entry_of}
use Rattle.rec_salvage.proofs.store.bytes_of_contents.Given as goal

-- those so far are counted
abbrev pub invariant-loop-content : goal.invariant-loop-content
invariant-loop-content l = l.bytes ≡ content_bytes (map entry_of (take l.content-index l.contents))
