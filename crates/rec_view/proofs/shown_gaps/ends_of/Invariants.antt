use Rattle.std.proofs.Common.{◌-◌, ◌<◌, length}
use Rattle.rec_view.proofs.shown_gaps.ends_of.Given as goal
use Rattle.rec_view.specs.ShownGaps.{AreEndsOf, IsRunEnd}

-- the gaps so far have their ends, and the next one that of the last
abbrev pub invariant-loop-index : goal.invariant-loop-index
invariant-loop-index l = record {
  ends : AreEndsOf l.fn.shown l.index l.ends.items;
  next : 0 < l.index → IsRunEnd l.fn.shown (length l.fn.shown - l.index) l.end;
}
