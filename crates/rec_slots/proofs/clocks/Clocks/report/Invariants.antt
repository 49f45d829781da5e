use Rattle.std.proofs.Common.{◌≡◌, ◌++◌, map}
use Rattle.std.specs.List.{AllByRecursion}
use Rattle.std.specs.Map.{keys_of}
use Rattle.rec_slots.proofs.clocks.Clocks.report.Given as goal
use Rattle.rec_slots.specs.Clocks.{IsTimed}
use Rattle.rec_slots.specs.declared.report.SlotUsage.{SlotUsage}

-- the usages so far are of the slots before what is left
abbrev pub invariant-loop-slot : goal.invariant-loop-slot
invariant-loop-slot l = record {
  used : AllByRecursion (IsTimed l.self) l.usages.items;
  slots : map (λ (u : SlotUsage). u.slot) l.usages.items ++ keys_of l.slot-iterator
      ≡ keys_of l.self.slots.entries;
}
