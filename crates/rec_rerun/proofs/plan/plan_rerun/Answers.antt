use Rattle.rec_rerun.proofs.Parts.{kept_in, never_both_in, parted_in}
use Rattle.rec_rerun.proofs.plan.plan_rerun.Goals as goal

pub returns-clause-parted : goal.returns-clause-parted
returns-clause-parted c =
    parted_in c.args.info.now c.args.list.now c.make_plan.result c.make_plan.ensures.run
    c.make_plan.ensures.skip

pub returns-clause-apart : goal.returns-clause-apart
returns-clause-apart c =
    never_both_in c.args.info.now c.args.list.now c.make_plan.result c.make_plan.ensures.run
    c.make_plan.ensures.skip

pub returns-clause-kept : goal.returns-clause-kept
returns-clause-kept c =
    kept_in c.args.info.now c.args.list.now c.make_plan.result c.make_plan.ensures.run
    c.make_plan.ensures.gone
