use Rattle.std.proofs.Common.{◌∙◌}
use Rattle.rec_rerun.proofs.suites.suite_of.Goals as goal
use Rattle.rec_rerun.proofs.SuiteSteps.{suite-made}

pub returns : goal.returns
returns c =
    suite-made c.args.binary.now c.args.tests.now _
    (c.new-binary_id.ensures ∙ c.in_ok-from_str.ensures.ok)
    c.in-Ok.ensures.names c.in-Ok-names_that_stand.ensures.names
    c.in-Ok.ensures.rise c.in-Ok-names_that_stand.ensures.rise c.requires
