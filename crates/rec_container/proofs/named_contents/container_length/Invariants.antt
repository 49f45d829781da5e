use Rattle.std.proofs.Common.{◌≡◌, ◌+◌, ◌<◌, ◌^◌, length}
use Rattle.rec_container.proofs.ContentsLeft.{left}
use Rattle.rec_container.proofs.named_contents.container_length.Given as goal
use Rattle.rec_container.specs.NamedContents.{container_of, entry_of}

-- what is left completes the container
abbrev pub invariant-loop-content : goal.invariant-loop-content
invariant-loop-content l = record {
  fits : l.length < 2 ^ 64;
  whole : l.length + length (left entry_of l.contents l.content-index)
      ≡ length (container_of l.contents);
}
