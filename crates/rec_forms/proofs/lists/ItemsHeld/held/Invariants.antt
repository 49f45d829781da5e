use Rattle.std.proofs.Common.{drop}
use Rattle.std.specs.List.{AllByRecursion}
use Rattle.rec_forms.proofs.lists.ItemsHeld.held.Given as goal

-- what is left decides
abbrev pub invariant-loop-item : goal.invariant-loop-item
invariant-loop-item g l =
    AllByRecursion g.T.Form.well_formed (drop l.item-index l.item-items)
    → AllByRecursion g.T.Form.well_formed l.item-items
