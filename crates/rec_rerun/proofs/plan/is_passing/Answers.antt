use Rattle.std.proofs.Common.{◌∙◌, Some, None, false, refl, ap}
use Rattle.rec_rerun.proofs.plan.is_passing.Goals as goal
use Rattle.rec_rerun.proofs.SuiteSets.{has-contains, passing_at}
use Rattle.rec_rerun.specs.Suites.{has}

pub returns-in-Some : goal.returns-in-Some
returns-in-Some c =
    passing_at c.args.info.now.test_suites c.args.test.now (Some c.in-Some.suite.now)
    c.contains.result c.as_map-ordered.ensures.rise c.in-Some.ensures
    (c.contains.ensures ∙ has-contains c.as_set.result.now.keys c.as_str.result.now
    ∙ ap (λ ns. has ns c.as_str.result.now) c.as_set.ensures.names
    ∙ ap (has c.in-Some.suite.now.passing) c.as_str.ensures.value)

pub returns-in-None : goal.returns-in-None
returns-in-None c =
    passing_at c.args.info.now.test_suites c.args.test.now None false c.as_map-ordered.ensures.rise
    c.in-None.ensures refl
