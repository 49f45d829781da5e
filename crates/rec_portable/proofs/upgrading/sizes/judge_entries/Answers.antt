use Rattle.std.proofs.lemmas.Result.{err_from_is_err_and}
use Rattle.rec_portable.proofs.JudgedSizes.{content_passed, content_refused, contents_passed}
use Rattle.rec_portable.proofs.upgrading.sizes.judge_entries.Goals as goal

pub returns-in_err-judge_one : goal.returns-in_err-judge_one
returns-in_err-judge_one c =
    let p = err_from_is_err_and c.from_residual.result c.from_residual.ensures.1 in
    rw (p.1, p.2) (content_refused c.args.limit c.args.contents.now c.loop-content.content-index
    c.loop-content-test.true c.loop-content.invariant _ c.in_err-judge_one.ensures)

pub loop-content-preserved : goal.loop-content-preserved
loop-content-preserved c =
    content_passed c.args.limit c.args.contents.now c.loop-content.content-index
    c.loop-content-test.true c.loop-content.invariant c.in_ok-judge_one.ensures

pub returns : goal.returns
returns c =
    contents_passed c.args.limit c.args.contents.now c.loop-content.content-index
    c.loop-content-test.false c.loop-content.invariant
