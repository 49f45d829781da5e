use Rattle.std.proofs.Common.{◌<◌, ◌-◌, add-one, arith, length, refl, suc, subst, sym}
use Rattle.rec_view.proofs.GapRuns.{ends_more, next_run}
use Rattle.rec_view.proofs.shown_gaps.ends_of.Goals as goal
use Rattle.rec_view.specs.ShownGaps.{AreEndsOf, IsRunEnd}

pub loop-index-preserved : goal.loop-index-preserved
loop-index-preserved c =
    let shown = c.args.shown.now in
    let i = c.loop-index.index in
    let end = c.run_end-end.result in
    let at = (length shown - 1) - i in
    let lt : i < length shown = c.loop-index-test.true in
    let before = c.loop-index.invariant in
    let run : IsRunEnd shown at end =
    next_run shown i at c.loop-index.end end lt refl before.next c.run_end-end.ensures in
    record {
      ends = subst (λ n. AreEndsOf shown n c.push.new.self.items) (sym (add-one i))
          (subst (AreEndsOf shown (suc i)) (sym c.in_ok-push.ensures.items)
          (ends_more shown i at end c.loop-index.ends.items lt refl before.ends run));
      next = λ p. subst (λ k. IsRunEnd shown k end) (omega arith) run;
    }
