use Rattle.std.proofs.Common.{◌≡◌, ◌+◌, ◌∷◌, sym, ◌∙◌, ap, map, drop, subst}
use Rattle.std.proofs.lemmas.List.{drop_more}
use Rattle.std.specs.List.{AllByRecursion}
use Rattle.rec_json.proofs.WriteLaws.{item_written, items_written}
use Rattle.rec_view_json.proofs.lists.write_list.Goals as goal

pub write-requires : goal.write-requires
write-requires g c =
    let items = c.args.items.now in
    let i = c.loop-item.item-index in
    let item = c.item-item.result in
    let here : drop i items ≡ item ∷ drop (i + 1) items =
    drop_more items i item c.loop-item-test.true
    ∙ ap (λ x. x ∷ drop (i + 1) items) (sym c.item-item.is) in
    let all : AllByRecursion (g.W.ItemWriter.takes c.args.writer.now) (item ∷ drop (i + 1) items) =
    subst (λ xs. AllByRecursion (g.W.ItemWriter.takes c.args.writer.now) xs) here
    c.loop-item.invariant.taken in
    all.0

pub loop-item-preserved : goal.loop-item-preserved
loop-item-preserved g c =
    let items = c.args.items.now in
    let i = c.loop-item.item-index in
    let item = c.item-item.result in
    let within = c.loop-item-test.true in
    let value = g.W.ItemWriter.value_of c.args.writer.now in
    let here : drop i items ≡ item ∷ drop (i + 1) items =
    drop_more items i item within ∙ ap (λ x. x ∷ drop (i + 1) items) (sym c.item-item.is) in
    let all : AllByRecursion (g.W.ItemWriter.takes c.args.writer.now) (item ∷ drop (i + 1) items) =
    subst (λ xs. AllByRecursion (g.W.ItemWriter.takes c.args.writer.now) xs) here
    c.loop-item.invariant.taken in
    record {
      written =
          rw c.in_ok-write.ensures
          (item_written value c.loop-item.text items i item within c.item-item.is
          ∙ c.loop-item.invariant.written);
      taken = all.1;
    }

pub returns : goal.returns
returns g c =
    let items = c.args.items.now in
    let value = g.W.ItemWriter.value_of c.args.writer.now in
    let none = items_written value c.loop-item.text items c.loop-item.item-index
    c.loop-item-test.false in
    c.end_list.ensures c.args.text.now (map value items)
    (sym none ∙ c.loop-item.invariant.written)
