use Rattle.std.proofs.Common.{◌≡◌, ◌+◌, add-one, arith, drop, refl, subst, sym}
use Rattle.rec_view.proofs.GapsShown.{got}
use Rattle.rec_view.proofs.unnamed.unnamed_of.Goals as goal
use Rattle.rec_view.proofs.UnnamedSums.{counted_more}
use Rattle.rec_view.specs.Unnamed.{unnamed}

pub loop-event-preserved : goal.loop-event-preserved
loop-event-preserved g c =
    let events = c.args.events.now in
    let i = c.loop-event.event-index in
    let before = c.loop-event.count in
    let more = c.kind_unnamed-more.result in
    let small = c.loop-event.invariant.small in
    let fits = c.kind_unnamed-more.type_inv in
    record {
      counted =
          subst (λ n. (before + more) + unnamed (drop n events) ≡ unnamed events)
          (sym (add-one i))
          (counted_more events i c.event-item.result before more (before + more)
          (got events i c.event-item.result c.loop-event-test.true c.event-item.is)
          c.kind_unnamed-more.ensures refl c.loop-event.invariant.counted);
      small = omega (arith, small, fits);
    }
