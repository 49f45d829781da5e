use Rattle.std.proofs.Common.{◌≡◌, ◌++◌, [], ◌∷◌, map, drop}
use Rattle.std.specs.List.{AllByRecursion}
use Rattle.json.specs.Token.{begin_array}
use Rattle.rec_json.specs.Tokens.{with_items}
use Rattle.rec_view_json.proofs.lists.write_list.Given as goal

-- what is left completes the list
abbrev pub invariant-loop-item : goal.invariant-loop-item
invariant-loop-item g l = record {
  written :
      with_items l.text (map (g.W.ItemWriter.value_of l.fn.writer) (drop l.item-index l.items))
      ≡ with_items (l.fn.text ++ begin_array ∷ [])
      (map (g.W.ItemWriter.value_of l.fn.writer) l.items);
  taken : AllByRecursion (g.W.ItemWriter.takes l.fn.writer) (drop l.item-index l.items);
}
