use Rattle.std.proofs.Common.{◌-◌, ◌≤◌, length}
use Rattle.rec_container.proofs.Ascending.{IsBetween}
use Rattle.rec_container.proofs.Halving.{Halved}
use Rattle.rec_container.proofs.lookup.find.Given as goal

abbrev pub invariant-loop-from : goal.invariant-loop-from
invariant-loop-from g l = record {
  ordered : l.from ≤ l.to;
  inside : l.to ≤ length l.fn.sorted;
  later : l.fn.steps ≤ l.steps;
  halved : Halved (length l.fn.sorted) (l.steps - l.fn.steps) (l.to - l.from);
  between : IsBetween l.fn.sorted l.fn.name l.from l.to;
}

abbrev pub decreases-loop-from : goal.decreases-loop-from
decreases-loop-from g l = l.to - l.from
