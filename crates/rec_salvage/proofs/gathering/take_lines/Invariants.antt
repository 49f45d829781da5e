use Rattle.std.proofs.Common.{length}
use Rattle.rec_salvage.proofs.gathering.take_lines.Given as goal
use Rattle.rec_salvage.specs.Gathering.{HasTaken}

abbrev pub invariant-lines : goal.invariant-lines
invariant-lines l = HasTaken l.prefix.entries l.log l.rest l.gathered

abbrev pub decreases-lines : goal.decreases-lines
decreases-lines l = length l.rest
