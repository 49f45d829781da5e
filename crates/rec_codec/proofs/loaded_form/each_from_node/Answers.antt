use Rattle.std.proofs.Common.{◌≡◌, ◌+◌, [], ◌∷◌, ◌++◌, ◌∙◌, ap, append_assoc, drop}
use Rattle.std.proofs.Common.{List, option_map, Option, Some, None, refl, sym}
use Rattle.std.proofs.lemmas.List.{drop_more}
use Rattle.std.proofs.lemmas.Result.{err_from_is_err_and}
use Rattle.serde_json.specs.Data.{Data, Items, item}
use Rattle.rec_json.specs.Nodes.{items_view, view}
use Rattle.rec_forms.specs.declared.errors.FromValueError.TheVariants.{NotAValue, OutOfMemory}
use Rattle.rec_forms.specs.declared.errors.FromValueError.{FromValueError}
use Rattle.rec_forms.specs.Gives.{Refuses}
use Rattle.rec_forms.specs.Lists.{each}
use Rattle.rec_codec.proofs.loaded_form.each_from_node.Goals as goal

-- an item more is kept
more : {T : Type 0} (kept : List T) (x : T) (rest : Option (List T))
    → option_map (λ xs. kept ++ xs) (option_map (λ xs. x ∷ xs) rest)
    ≡ option_map (λ xs. (kept ++ x ∷ []) ++ xs) rest
more kept x None = refl
more kept x (Some xs) = rw append_assoc refl

each_more : {T : Type 0} (form : Data → Option T) (kept : List T) (x : T) (d : Data) (ds : Items)
    → form d ≡ Some x
    → option_map (λ xs. kept ++ xs) (each form (item d ds))
    ≡ option_map (λ xs. (kept ++ x ∷ []) ++ xs) (each form ds)
each_more form kept x d ds h = rw h (more kept x (each form ds))

-- an item that is refused
each_refused : {T : Type 0} (form : Data → Option T) (kept : List T) (d : Data) (ds : Items)
    (e : FromValueError)
    → Refuses e (form d) → Refuses e (option_map (λ xs. kept ++ xs) (each form (item d ds)))
each_refused form kept d ds NotAValue h = rw h refl
each_refused form kept d ds OutOfMemory h = tt

pub loop-node-preserved : goal.loop-node-preserved
loop-node-preserved g c =
    let form = g.T.LoadedForm.form_of in
    let nodes = c.in-Some.nodes.now in
    let node = c.node-item.result in
    let kept = c.loop-node.items.items in
    let rest = drop (c.loop-node.node-index + 1) nodes in
    let here : drop c.loop-node.node-index nodes ≡ node ∷ rest =
    drop_more nodes c.loop-node.node-index node c.loop-node-test.true
    ∙ ap (λ x. x ∷ rest) (sym c.node-item.is) in
    rw c.in_ok-push.ensures.items (
    c.loop-node.invariant
    ∙ ap (λ ns. option_map (λ xs. kept ++ xs) (each form (items_view ns))) here
    ∙ each_more form kept c.in_ok-item.item (view node) (items_view rest) c.in_ok-item.ensures.read
    )

pub returns-in_err-item : goal.returns-in_err-item
returns-in_err-item g c =
    let nodes = c.in-Some.nodes.now in
    let node = c.node-item.result in
    let rest = drop (c.loop-node.node-index + 1) nodes in
    let here : drop c.loop-node.node-index nodes ≡ node ∷ rest =
    drop_more nodes c.loop-node.node-index node c.loop-node-test.true
    ∙ ap (λ x. x ∷ rest) (sym c.node-item.is) in
    let p = err_from_is_err_and c.from_residual-in_err-item.result
    c.from_residual-in_err-item.ensures.1 in
    rw (p.1, p.2, ← c.in-Some.ensures, c.loop-node.invariant, here)
    (each_refused g.T.LoadedForm.form_of c.loop-node.items.items (view node) (items_view rest) _
    c.in_err-item.ensures.read)
