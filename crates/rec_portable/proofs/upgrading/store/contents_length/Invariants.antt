use Rattle.std.proofs.Common.{◌≡◌, ◌+◌, ◌<◌, ◌^◌, drop, map}
use Rattle.rec_container.specs.Container.{content_bytes}
use Rattle.rec_container.specs.NamedContents.{entry_of}
use Rattle.rec_portable.proofs.upgrading.store.contents_length.Given as goal

-- what is left completes the sum
abbrev pub invariant-loop-content : goal.invariant-loop-content
invariant-loop-content l = record {
  fits : l.length < 2 ^ 64;
  whole : l.length + content_bytes (map entry_of (drop l.content-index l.contents))
      ≡ content_bytes (map entry_of l.contents);
}
