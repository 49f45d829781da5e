use Rattle.std.proofs.Common.{◌≡◌, ◌≤◌, [], ◌++◌, List, ℕ, length, ◌<◌, drop}
use Rattle.std.specs.Io.KnownBytes.{Appends}
use Rattle.std.specs.List.{AllByRecursion}
use Rattle.rec_container.proofs.ContentsLeft.{left}
use Rattle.rec_container.proofs.named_contents.write_contents.Given as goal
use Rattle.rec_container.specs.NamedContents.{begun, entry_of}

-- what was taken, and what is left to write, are the magic and the contents
abbrev pub invariant-loop-content : goal.invariant-loop-content
invariant-loop-content g l = record {
  names : AllByRecursion (λ c. length c.name.now < 65536) (drop l.content-index l.contents);
  later : g.K.Sink.faults l.fn.sink ≤ g.K.Sink.faults l.sink;
  done : List ℕ;
  taken : Appends (g.K.Sink.taken l.fn.sink) (g.K.Sink.taken l.sink) done;
  whole : done ++ (left entry_of l.contents l.content-index ++ []) ≡ begun l.contents;
}
