use Rattle.std.proofs.lemmas.Result.{IfOk-weaker}
use Rattle.rec_rerun.proofs.selection.RerunSelector.select.Goals as goal
use Rattle.rec_rerun.proofs.StandingMaps.{apart, recorded, selected}

pub returns-clause-selected : goal.returns-clause-selected
returns-clause-selected c =
    λ known events has. IfOk-weaker c.make_info.result _ _
    (λ info are. selected _ info.test_suites are known events has) c.make_info.ensures.suites

pub returns-clause-apart : goal.returns-clause-apart
returns-clause-apart c =
    IfOk-weaker c.make_info.result _ _ (λ info are. apart _ info.test_suites are)
    c.make_info.ensures.suites

pub returns-clause-recorded : goal.returns-clause-recorded
returns-clause-recorded c =
    λ known events has. IfOk-weaker c.make_info.result _ _
    (λ info are. recorded _ info.test_suites are known events has) c.make_info.ensures.suites
