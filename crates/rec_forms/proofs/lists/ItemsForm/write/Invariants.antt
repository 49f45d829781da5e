use Rattle.std.proofs.Common.{◌≡◌, [], ◌∷◌, ◌++◌, map, drop}
use Rattle.std.specs.List.{AllByRecursion}
use Rattle.json.specs.Token.{begin_array}
use Rattle.rec_json.specs.Tokens.{with_items}
use Rattle.rec_forms.proofs.lists.ItemsForm.write.Given as goal

-- what is left completes the list
abbrev pub invariant-loop-item : goal.invariant-loop-item
invariant-loop-item g l = record {
  written :
      with_items l.text (map g.T.Form.value_of (drop l.item-index l.item-items))
      ≡ with_items (l.fn.text ++ begin_array ∷ []) (map g.T.Form.value_of l.item-items);
  known : AllByRecursion g.T.Form.well_formed (drop l.item-index l.item-items)
      → AllByRecursion g.T.Form.well_formed l.item-items;
}
