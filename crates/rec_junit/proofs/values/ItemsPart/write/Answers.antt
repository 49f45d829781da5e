use Rattle.std.proofs.Common.{◌≡◌, ◌+◌, [], ◌∷◌, ◌++◌, map, sym, ◌∙◌, ap, drop, subst}
use Rattle.std.proofs.lemmas.List.{drop_more}
use Rattle.std.specs.List.{AllByRecursion}
use Rattle.json.specs.Token.{begin_array}
use Rattle.rec_json.proofs.WriteLaws.{item_written, items_written}
use Rattle.rec_json.specs.Tokens.{with_items}
use Rattle.rec_junit.proofs.values.ItemsPart.write.Goals as goal

pub loop-item-preserved : goal.loop-item-preserved
loop-item-preserved g c =
    let items = c.as_slice-item-items.result.now in
    let i = c.loop-item.item-index in
    let item = c.item-item.result in
    let within = c.loop-item-test.true in
    let is = c.item-item.is in
    let next : drop i items ≡ item ∷ drop (i + 1) items =
    drop_more items i item within ∙ ap (λ x. x ∷ drop (i + 1) items) (sym is) in
    record {
      written =
          rw c.in_ok-write.ensures.written
          (item_written g.T.Part.value_of c.loop-item.text items i item within is
          ∙ c.loop-item.invariant.written);
      known =
          λ all. c.loop-item.invariant.known (subst (λ xs. AllByRecursion g.T.Part.well_formed xs)
          (sym next) (c.in_ok-write.ensures.known, all));
    }

pub returns-clause-written : goal.returns-clause-written
returns-clause-written g c =
    let items = c.as_slice-item-items.result.now in
    let begun = c.args.text.now ++ begin_array ∷ [] in
    let none = items_written g.T.Part.value_of c.loop-item.text items c.loop-item.item-index
    c.loop-item-test.false in
    let same =
    ap (λ xs. with_items begun (map g.T.Part.value_of xs)) c.as_slice-item-items.ensures in
    c.end_list.ensures c.args.text.now (map g.T.Part.value_of c.args.self.now)
    (sym none ∙ c.loop-item.invariant.written ∙ same)
