use Rattle.std.proofs.Common.{length}
use Rattle.rec_export.proofs.LineBlocks.{AreOf}
use Rattle.rec_export.proofs.session_lines.SessionLines.new.Given as goal

abbrev pub invariant-loop-start : goal.invariant-loop-start
invariant-loop-start l = AreOf l.fn.text.items l.block.items l.later.items

abbrev pub decreases-loop-start : goal.decreases-loop-start
decreases-loop-start l = length l.block.items
