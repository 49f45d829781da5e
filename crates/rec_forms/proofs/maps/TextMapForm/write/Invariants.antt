use Rattle.std.proofs.Common.{◌≡◌, [], ◌∷◌, ◌++◌}
use Rattle.std.specs.List.{AllByRecursion}
use Rattle.json.specs.Token.{begin_object}
use Rattle.rec_json.specs.Tokens.{with_fields}
use Rattle.rec_events.specs.Pairs.{pairs}
use Rattle.rec_forms.proofs.maps.TextMapForm.write.Given as goal
use Rattle.rec_forms.specs.Maps.{map_fields, each_value}

-- what is left completes the object
abbrev pub invariant-loop-key : goal.invariant-loop-key
invariant-loop-key g l = record {
  written :
      with_fields l.text (map_fields g.V.Form.value_of (pairs l.key-iterator))
      ≡ with_fields (l.fn.text ++ begin_object ∷ []) (map_fields g.V.Form.value_of l.fn.self);
  known : AllByRecursion g.V.Form.well_formed (each_value (pairs l.key-iterator))
      → AllByRecursion g.V.Form.well_formed (each_value l.fn.self);
}
