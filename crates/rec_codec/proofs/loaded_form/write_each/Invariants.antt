use Rattle.std.proofs.Common.{◌≡◌, ◌++◌, [], ◌∷◌, map, drop}
use Rattle.std.specs.List.{AllByRecursion}
use Rattle.json.specs.Token.{begin_array}
use Rattle.rec_json.specs.Tokens.{with_items}
use Rattle.rec_codec.proofs.loaded_form.write_each.Given as goal
use Rattle.rec_codec.specs.Writes.{every}

-- what is left completes the list
abbrev pub invariant-loop-item : goal.invariant-loop-item
invariant-loop-item g l = record {
  written :
      with_items l.text (map g.T.LoadedForm.value_of (drop l.item-index l.items))
      ≡ with_items (l.fn.text ++ begin_array ∷ []) (map g.T.LoadedForm.value_of l.items);
  loaded : every g.T.LoadedForm.loaded (drop l.item-index l.items)
      ≡ every g.T.LoadedForm.loaded l.items;
  known : AllByRecursion g.T.LoadedForm.well_formed (drop l.item-index l.items)
      → AllByRecursion g.T.LoadedForm.well_formed l.items;
}
