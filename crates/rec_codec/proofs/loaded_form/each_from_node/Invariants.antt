use Rattle.std.proofs.Common.{◌≡◌, ◌++◌, drop, option_map}
use Rattle.rec_json.specs.Nodes.{items_view}
use Rattle.rec_forms.specs.Lists.{each}
use Rattle.rec_codec.proofs.loaded_form.each_from_node.Given as goal

-- what is left completes the list
abbrev pub invariant-loop-node : goal.invariant-loop-node
invariant-loop-node g l =
    each g.T.LoadedForm.form_of (items_view l.nodes)
    ≡ option_map (λ xs. l.items.items ++ xs)
    (each g.T.LoadedForm.form_of (items_view (drop l.node-index l.nodes)))
