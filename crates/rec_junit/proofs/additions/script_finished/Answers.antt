use Rattle.std.proofs.Common.{ℕ, List, subst}
use Rattle.rec_junit.proofs.additions.script_finished.Goals as goal
use Rattle.rec_junit.specs.Additions.{script_addition}
use Rattle.rec_junit.specs.declared.suite_keys.SuiteKey.{SuiteKey}
use Rattle.rec_junit.specs.Judging.{Judges}

pub returns : goal.returns
returns g c =
    let is = c.in-SetupScriptFinished in
    let added = λ (key : SuiteKey) (args : List (List ℕ)). script_addition
    (g.D.ErrorDescriber.text_of c.args.describer.now)
    (record { success = is.junit_store_success_output; failure = is.junit_store_failure_output })
    key is.script_id is.program args is.run_status in
    rw is.is
    (subst (λ (key : SuiteKey). Judges c.script_addition.result (added key is.args))
    c.in_ok-key.ensures
    (subst (λ (args : List (List ℕ)). Judges c.script_addition.result (added c.in_ok-key.key args))
    c.as_slice.ensures c.script_addition.ensures))
