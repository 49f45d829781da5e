use Rattle.std.proofs.Common.{◌≡◌, ℕ, ◌+◌, ◌-◌, ◌≤◌, List, length}
use Rattle.rec_live_recording.proofs.line_reader.LineReader.read_line.Given as goal
use Rattle.rec_live_recording.proofs.LinesRead.{IsIn}
use Rattle.rec_live_recording.specs.LineReading.{IsLeft}

abbrev pub invariant-pieces : goal.invariant-pieces
invariant-pieces g l = record {
  room : l.self.number + length l.self.line + length l.self.ahead ≤ l.self.given;
  within : l.self.given ≤ l.self.limit;
  number : l.self.number ≡ l.fn.self.number;
  limit : l.self.limit ≡ l.fn.self.limit;
  faults : g.S.Source.faults l.self.source ≡ g.S.Source.faults l.fn.self.source;
  read : (total : ℕ) (text : List ℕ) → IsLeft g.S.Source.left total text l.fn.self
      → IsIn g.S.Source.left total text l.self;
}

abbrev pub decreases-pieces : goal.decreases-pieces
decreases-pieces g l = l.self.limit - l.self.given
