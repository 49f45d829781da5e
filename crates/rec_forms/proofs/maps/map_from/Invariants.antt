use Rattle.std.proofs.Common.{◌≡◌, []}
use Rattle.rec_json.specs.Nodes.{sorted_view}
use Rattle.rec_forms.proofs.maps.map_from.Given as goal
use Rattle.rec_forms.specs.Maps.{pairs_form}

-- what is left completes the map
abbrev pub invariant-loop-key : goal.invariant-loop-key
invariant-loop-key g l =
    pairs_form g.V.Form.form_of l.map (sorted_view l.key-iterator)
    ≡ pairs_form g.V.Form.form_of [] (sorted_view l.initial.key-iterator)
