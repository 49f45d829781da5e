use Rattle.std.proofs.Common.{refl}
use Rattle.std.proofs.lemmas.Result.{err_from_is_err_and}
use Rattle.rec_codec.proofs.output_kinds.attempt_failed_from.Goals as goal
use Rattle.rec_codec.proofs.Refusals.{at_first, around_four}
use Rattle.rec_codec.specs.OutputKinds.{attempt_failed_form}

pub returns-in_err-stress_index : goal.returns-in_err-stress_index
unfolding attempt_failed_form
returns-in_err-stress_index g c =
    let p = err_from_is_err_and c.from_residual.result c.from_residual.ensures.1 in
    rw (p.1, p.2) (at_first _ _ _ c.in_err-stress_index.ensures)

pub returns-in_err-delay_before_next_attempt : goal.returns-in_err-delay_before_next_attempt
unfolding attempt_failed_form
returns-in_err-delay_before_next_attempt g c =
    let p = err_from_is_err_and c.from_residual-in_err-delay_before_next_attempt.result
    c.from_residual-in_err-delay_before_next_attempt.ensures.1 in
    rw (p.1, p.2, c.in_ok-stress_index.ensures)
    (around_four _ _ _ _ _ _ _ c.in_err-delay_before_next_attempt.ensures)

pub returns-in-Err : goal.returns-in-Err
unfolding attempt_failed_form
returns-in-Err g c =
    rw (c.in_ok-stress_index.ensures, c.in_ok-delay_before_next_attempt.ensures.3)
    (at_first _ _ _ c.in-Err.ensures)

pub returns : goal.returns
unfolding attempt_failed_form
returns g c = rw (
  c.in_ok-stress_index.ensures,
  c.in_ok-delay_before_next_attempt.ensures.3,
  c.in-Ok.ensures,
  c.in_ok-delay_before_next_attempt.ensures.0,
  c.in_ok-delay_before_next_attempt.ensures.1,
  c.in_ok-delay_before_next_attempt.ensures.2,
) refl
