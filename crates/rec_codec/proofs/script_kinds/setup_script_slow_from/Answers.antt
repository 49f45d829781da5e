use Rattle.std.proofs.Common.{refl}
use Rattle.std.proofs.lemmas.Result.{err_from_is_err_and}
use Rattle.rec_codec.proofs.Refusals.{at_first, at_two}
use Rattle.rec_codec.proofs.script_kinds.setup_script_slow_from.Goals as goal
use Rattle.rec_codec.specs.CoreKindForms.{setup_script_slow_form}

pub returns-in_err-stress_index : goal.returns-in_err-stress_index
unfolding setup_script_slow_form
returns-in_err-stress_index c =
    let p = err_from_is_err_and c.from_residual.result c.from_residual.ensures.1 in
    rw (p.1, p.2) (at_first _ _ _ c.in_err-stress_index.ensures)

pub returns-in_err-elapsed : goal.returns-in_err-elapsed
unfolding setup_script_slow_form
returns-in_err-elapsed c =
    let p = err_from_is_err_and c.from_residual-in_err-elapsed.result
    c.from_residual-in_err-elapsed.ensures.1 in
    rw (p.1, p.2, c.in_ok-stress_index.ensures) (at_two _ _ _ _ c.in_err-elapsed.ensures)

pub returns-in_err-command : goal.returns-in_err-command
unfolding setup_script_slow_form
returns-in_err-command c =
    let p = err_from_is_err_and c.from_residual-in_err-command.result
    c.from_residual-in_err-command.ensures.1 in
    rw
    (p.1, p.2, c.in_ok-stress_index.ensures, c.in_ok-elapsed.ensures.0, c.in_ok-elapsed.ensures.1)
    (at_first _ _ _ c.in_err-command.ensures)

pub returns : goal.returns
unfolding setup_script_slow_form
returns c = rw (
  c.in_ok-stress_index.ensures,
  c.in_ok-elapsed.ensures.0,
  c.in_ok-elapsed.ensures.1,
  c.in_ok-command.ensures,
) refl
