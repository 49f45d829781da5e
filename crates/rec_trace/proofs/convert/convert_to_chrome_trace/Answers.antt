use Rattle.std.proofs.Common.{[], refl, subst}
use Rattle.rec_trace.proofs.convert.convert_to_chrome_trace.Goals as goal
use Rattle.rec_trace.proofs.Converting.{converted-item, converts-all, refused-item}
use Rattle.rec_trace.specs.Traces.{HasTraced}

pub loop-item-init : goal.loop-item-init
loop-item-init g c = record {
  converted = (
    [],
    refl,
    subst (λ version. HasTraced c.args.message_format c.args.group_by version [] c.new-trace.result)
        c.in_ok-runner.ensures.copy c.new-trace.ensures,
  );
}

pub loop-item-preserved : goal.loop-item-preserved
loop-item-preserved g c = record {
  converted =
      converted-item c.args.message_format c.args.group_by c.args.version.now c.loop-item.trace
      c.loop-item.yielded c.loop-item.invariant.converted
      c.add_item.new.trace c.in-Some.item c.in_default.field-0 c.in_default.ensures;
}

pub returns-in-Err-clause-no_trace : goal.returns-in-Err-clause-no_trace
returns-in-Err-clause-no_trace g c =
    refused-item c.args.message_format c.args.group_by c.args.version.now c.loop-item.trace
    c.loop-item.yielded c.loop-item.invariant.converted
    g.I.Iterator.next_gives c.args.events c.into_iter-item-iterator.result c.loop-item.item-iterator
    c.next.new.self c.into_iter-item-iterator.ensures.into_iter_gives c.loop-item.yielded_by
    c.add_item.new.trace c.in-Some.item c.in-Err.error c.in-Some.ensures.steps c.in-Err.ensures

pub returns-clause-trace : goal.returns-clause-trace
returns-clause-trace g c =
    converts-all c.args.message_format c.args.group_by c.args.version.now c.loop-item.trace
    c.loop-item.yielded c.loop-item.invariant.converted
    g.I.Iterator.next_gives c.args.events c.into_iter-item-iterator.result c.loop-item.item-iterator
    c.next.new.self c.into_iter-item-iterator.ensures.into_iter_gives c.loop-item.yielded_by
    c.in_ok-text.text.items c.in-None.ensures.steps c.in_ok-text.ensures.written
    c.in_ok-text.ensures.printed
