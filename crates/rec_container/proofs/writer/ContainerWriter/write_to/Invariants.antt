use Rattle.std.proofs.Common.{◌≡◌, ◌≤◌, [], ◌∷◌, ◌++◌, List, ℕ}
use Rattle.std.specs.Io.KnownBytes.{Appends}
use Rattle.rec_container.proofs.ContentsLeft.{left}
use Rattle.rec_container.proofs.writer.ContainerWriter.write_to.Given as goal
use Rattle.rec_container.specs.Container.{spell}

-- what was taken, and what is left to write, are the container
abbrev pub invariant-loop-i : goal.invariant-loop-i
invariant-loop-i g l = record {
  later : g.T.Sink.faults l.fn.sink ≤ g.T.Sink.faults l.sink;
  done : List ℕ;
  taken : Appends (g.T.Sink.taken l.fn.sink) (g.T.Sink.taken l.sink) done;
  whole : done ++ (left (λ e. e) l.self.entries l.i ++ 0 ∷ []) ≡ spell l.self.entries;
}
