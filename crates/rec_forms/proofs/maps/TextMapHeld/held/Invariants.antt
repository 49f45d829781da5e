use Rattle.std.specs.List.{AllByRecursion}
use Rattle.rec_events.specs.Pairs.{pairs}
use Rattle.rec_forms.proofs.maps.TextMapHeld.held.Given as goal
use Rattle.rec_forms.specs.Maps.{each_value}

-- what is left decides
abbrev pub invariant-loop-item : goal.invariant-loop-item
invariant-loop-item g l =
    AllByRecursion g.V.Form.well_formed (each_value (pairs l.item-iterator))
    → AllByRecursion g.V.Form.well_formed (each_value l.fn.self)
