use Rattle.std.proofs.Common.{◌≡◌, ◌+◌, [], ◌∷◌, ◌++◌, List, Option, Some, None}
use Rattle.std.proofs.Common.{option_map, append_assoc, sym, ◌∙◌, ap, drop, refl}
use Rattle.std.proofs.lemmas.List.{drop_more}
use Rattle.serde_json.specs.Data.{Data}
use Rattle.rec_json.specs.declared.node.Node.{Node}
use Rattle.rec_json.specs.Nodes.{items_view, view}
use Rattle.rec_forms.proofs.lists.ItemsForm.from_node.Goals as goal
use Rattle.rec_forms.specs.Lists.{each}

module _ {T : Type 0} (form : Data → Option T) where
  joined : (xs : List T) (x : T) (rest : Option (List T))
      → option_map (λ ys. xs ++ ys) (option_map (λ ys. x ∷ ys) rest)
      ≡ option_map (λ ys. (xs ++ x ∷ []) ++ ys) rest
  joined xs x None = refl
  joined xs x (Some ys) = ap Some (sym (append_assoc xs (x ∷ []) ys))

  -- one more item was read
  one_more : (xs : List T) (x : T) (nodes rest : List Node) (node : Node) → nodes ≡ node ∷ rest
      → form (view node) ≡ Some x
      → option_map (λ ys. xs ++ ys) (each form (items_view nodes))
      ≡ option_map (λ ys. (xs ++ x ∷ []) ++ ys) (each form (items_view rest))
  one_more xs x nodes rest node is reads =
      rw (is, reads) (joined xs x (each form (items_view rest)))

pub loop-node-preserved : goal.loop-node-preserved
loop-node-preserved g c =
    let nodes = c.in-Some.nodes.now in
    let i = c.loop-node.node-index in
    let node = c.node-item.result in
    let next : drop i nodes ≡ node ∷ drop (i + 1) nodes =
    drop_more nodes i node c.loop-node-test.true
    ∙ ap (λ n. n ∷ drop (i + 1) nodes) (sym c.node-item.is) in
    let more = one_more g.T.Form.form_of c.loop-node.items.items c.in_ok-item.item (drop i nodes)
    (drop (i + 1) nodes) node next c.in_ok-item.ensures.read_node in
    rw c.in_ok-push.ensures.items (c.loop-node.invariant ∙ more)
