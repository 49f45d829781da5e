use Rattle.std.proofs.Common.{rules}
use Rattle.std.proofs.lemmas.Result.{err_from_is_err_and}
use Rattle.std.specs.Prelude.{refl}
use Rattle.rec_forms.proofs.FieldSteps.{three_refused, four_refused}
use Rattle.rec_forms.proofs.stats.LastCounts.read.Goals as goal
use Rattle.rec_forms.specs.Stats.{last_counts_form}

pub returns-in_err-setup_scripts_exec_failed : goal.returns-in_err-setup_scripts_exec_failed
unfolding last_counts_form
returns-in_err-setup_scripts_exec_failed c =
    let p = err_from_is_err_and c.from_residual.result c.from_residual.ensures.1 in
    rw (p.1, p.2) (search (rules, four_refused))

pub returns-in_err-setup_scripts_passed : goal.returns-in_err-setup_scripts_passed
unfolding last_counts_form
returns-in_err-setup_scripts_passed c =
    let p = err_from_is_err_and c.from_residual-in_err-setup_scripts_passed.result
    c.from_residual-in_err-setup_scripts_passed.ensures.1 in
    let first = c.in_ok-setup_scripts_exec_failed.ensures in
    rw (p.1, p.2, first.0, first.1, first.2, first.3) (search (rules, three_refused))

pub returns : goal.returns
unfolding last_counts_form
returns c =
    let first = c.in_ok-setup_scripts_exec_failed.ensures in
    let second = c.in_ok-setup_scripts_passed.ensures in
    rw (first.0, first.1, first.2, first.3, second.0, second.1, second.2) refl
