use Rattle.std.proofs.Common.{◌≡◌, ◌++◌, drop}
use Rattle.rec_events.proofs.items.ItemsTryClone.try_clone.Given as goal

-- what is left completes the copy
abbrev pub invariant-loop-item : goal.invariant-loop-item
invariant-loop-item g l = l.inner.items ++ drop l.item-index l.item-items ≡ l.item-items
