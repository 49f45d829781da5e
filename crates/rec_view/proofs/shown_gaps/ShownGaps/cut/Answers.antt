use Rattle.std.proofs.Common.{◌≤◌, ◌<◌, ◌∙◌, arith, sym}
use Rattle.rec_view.proofs.GapRuns.{run_passed, same_kind}
use Rattle.rec_view.proofs.shown_gaps.ShownGaps.cut.Goals as goal
use Rattle.rec_view.specs.ShownGaps.{passes_for}

pub loop-at-preserved : goal.loop-at-preserved
loop-at-preserved c =
    let at = c.loop-at.at in
    let end = c.min-end.result in
    let is = c.min-end.ensures in
    let later = c.end_of.ensures.later in
    let test = c.loop-at-test.true in
    let lt : at < end = omega (arith, is, later, test) in
    let le : end ≤ c.args.to = omega (arith, is) in
    let short : end ≤ c.end_of.result = omega (arith, is) in
    record {
      within = le;
      cut = λ history are.
          run_passed (passes_for c.args.wanted history) c.loop-at.cutter c.pass.new.self at end
          c.args.to _ c.is_wanted.result lt le
          (λ j l u. same_kind history c.args.self.now at c.end_of.result c.args.wanted
          c.index.result.now are (c.end_of.ensures.is are.ends) c.index.ensures j l
          (omega (arith, u, short)) ∙ sym c.is_wanted.ensures)
          c.in_ok-pass.ensures.ok (c.loop-at.invariant.cut history are);
    }
