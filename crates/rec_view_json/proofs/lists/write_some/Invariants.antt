use Rattle.std.proofs.Common.{◌≡◌, ◌++◌, [], ◌∷◌, drop, filter_map}
use Rattle.json.specs.Token.{begin_array}
use Rattle.rec_json.specs.Tokens.{with_items}
use Rattle.rec_view_json.proofs.lists.write_some.Given as goal

-- what is left completes the list
abbrev pub invariant-loop-item : goal.invariant-loop-item
invariant-loop-item g l =
    with_items l.text (filter_map (g.W.SomeWriter.value_of l.fn.writer) (drop l.item-index l.items))
    ≡ with_items (l.fn.text ++ begin_array ∷ [])
    (filter_map (g.W.SomeWriter.value_of l.fn.writer) l.items)
