use Rattle.std.proofs.Common.{◌-◌, ◌≤◌, ◌++◌, List}
use Rattle.rec_spans.specs.Past.{TraceInput}
use Rattle.rec_view.proofs.shown_gaps.ShownGaps.cut.Given as goal
use Rattle.rec_view.specs.ShownGaps.{AreGaps, Becomes, pairs, passes_for}
use Rattle.rec_view.specs.Slices.{stretches}

-- with the gaps that are left, what is cut so far becomes all
abbrev pub invariant-loop-at : goal.invariant-loop-at
invariant-loop-at l = record {
  within : l.at ≤ l.to;
  cut :
      (history : List TraceInput) → AreGaps history l.fn.self
      → Becomes (passes_for l.fn.wanted history) l.cutter l.at (l.to - l.at)
      (pairs l.fn.cutter.slices.items
      ++ stretches (passes_for l.fn.wanted history) l.fn.cutter.held l.fn.from
      (l.fn.to - l.fn.from));
}

abbrev pub decreases-loop-at : goal.decreases-loop-at
decreases-loop-at l = l.to - l.at
