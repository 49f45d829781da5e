use Rattle.std.proofs.Common.{◌∙◌}
use Rattle.rec_rerun.proofs.Parts.{gone_is}
use Rattle.rec_rerun.proofs.plan.make_plan.Goals as goal
use Rattle.rec_rerun.specs.Plans.{outstanding_in}

pub returns-clause-gone : goal.returns-clause-gone
returns-clause-gone c =
    c.new-3.ensures ∙ c.in-Ok.ensures ∙ gone_is c.args.list.now c.in_ok-planned.planned.seen
    (outstanding_in c.args.info.now.test_suites) c.in_ok-planned.ensures.seen
