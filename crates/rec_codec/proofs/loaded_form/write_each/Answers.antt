use Rattle.std.proofs.Common.{◌≡◌, ◌+◌, ◌∷◌, ◌&&◌, Bool, refl, sym, ◌∙◌, ap, map, drop, subst}
use Rattle.std.proofs.lemmas.List.{drop_more}
use Rattle.std.proofs.lemmas.Result.{err_from_is_err_and}
use Rattle.std.specs.List.{AllByRecursion}
use Rattle.rec_json.proofs.WriteLaws.{item_written, items_written}
use Rattle.rec_codec.proofs.loaded_form.write_each.Goals as goal
use Rattle.rec_codec.specs.declared.errors.ToValueError.TheVariants.{NotLoaded, OutOfMemory}
use Rattle.rec_codec.specs.declared.errors.ToValueError.{ToValueError}
use Rattle.rec_codec.specs.Writes.{FailsUnloaded, every}

-- an output that is missing is missing among all
fails_here : (e : ToValueError) (here rest : Bool) → FailsUnloaded e here
    → FailsUnloaded e (here && rest)
fails_here NotLoaded here rest h = rw h refl
fails_here OutOfMemory here rest h = tt

pub returns-in_err-write-clause-loaded : goal.returns-in_err-write-clause-loaded
returns-in_err-write-clause-loaded g c =
    let items = c.args.items.now in
    let i = c.loop-item.item-index in
    let item = c.item-item.result in
    let rest = drop (i + 1) items in
    let here : drop i items ≡ item ∷ rest =
    drop_more items i item c.loop-item-test.true ∙ ap (λ x. x ∷ rest) (sym c.item-item.is) in
    let p = err_from_is_err_and c.from_residual-in_err-write.result
    c.from_residual-in_err-write.ensures.1 in
    rw (p.1, p.2, ← c.loop-item.invariant.loaded, here) (fails_here _ (g.T.LoadedForm.loaded item)
    (every g.T.LoadedForm.loaded rest) c.in_err-write.ensures.loaded)

pub loop-item-preserved : goal.loop-item-preserved
loop-item-preserved g c =
    let items = c.args.items.now in
    let i = c.loop-item.item-index in
    let item = c.item-item.result in
    let rest = drop (i + 1) items in
    let within = c.loop-item-test.true in
    let here : drop i items ≡ item ∷ rest =
    drop_more items i item within ∙ ap (λ x. x ∷ rest) (sym c.item-item.is) in
    let before = c.loop-item.invariant in
    let is = c.in_ok-write.ensures in
    record {
      written =
          rw is.written
          (item_written g.T.LoadedForm.value_of c.loop-item.text items i item within c.item-item.is
          ∙ before.written);
      loaded =
          sym (ap (λ xs. every g.T.LoadedForm.loaded xs) here
          ∙ ap (λ b. b && every g.T.LoadedForm.loaded rest) is.loaded)
          ∙ before.loaded;
      known =
          λ all. before.known
          (subst (λ xs. AllByRecursion g.T.LoadedForm.well_formed xs) (sym here) (is.known, all));
    }

pub returns-clause-written : goal.returns-clause-written
returns-clause-written g c =
    let items = c.args.items.now in
    let all_written = items_written g.T.LoadedForm.value_of c.loop-item.text items
    c.loop-item.item-index c.loop-item-test.false in
    c.in_ok-end_list.ensures c.args.text.now (map g.T.LoadedForm.value_of items)
    (sym all_written ∙ c.loop-item.invariant.written)
