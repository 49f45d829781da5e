use Rattle.std.proofs.Common.{sym, ◌∙◌, filter_map}
use Rattle.rec_view_json.proofs.lists.write_some.Goals as goal
use Rattle.rec_view_json.proofs.SomeValues.{all_some_written, some_written}

pub loop-item-preserved : goal.loop-item-preserved
loop-item-preserved g c =
    let value = g.W.SomeWriter.value_of c.args.writer.now in
    rw c.in_ok-write.ensures
    (some_written value c.loop-item.text c.args.items.now c.loop-item.item-index c.item-item.result
    c.loop-item-test.true c.item-item.is
    ∙ c.loop-item.invariant)

pub returns : goal.returns
returns g c =
    let items = c.args.items.now in
    let value = g.W.SomeWriter.value_of c.args.writer.now in
    let none = all_some_written value c.loop-item.text items c.loop-item.item-index
    c.loop-item-test.false in
    c.end_list.ensures c.args.text.now (filter_map value items)
    (sym none ∙ c.loop-item.invariant)
