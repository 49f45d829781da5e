use Rattle.std.proofs.Common.{refl}
use Rattle.std.proofs.lemmas.Result.{err_from_is_err_and}
use Rattle.rec_codec.proofs.output_kinds.test_finished_from.Goals as goal
use Rattle.rec_codec.proofs.Refusals.{at_first, around_three}
use Rattle.rec_codec.specs.OutputKinds.{test_finished_form}

pub returns-in_err-reporting : goal.returns-in_err-reporting
unfolding test_finished_form
returns-in_err-reporting g c =
    let p = err_from_is_err_and c.from_residual.result c.from_residual.ensures.1 in
    rw (p.1, p.2) (at_first _ _ _ c.in_err-reporting.ensures)

pub returns-in_err-stress_index : goal.returns-in_err-stress_index
unfolding test_finished_form
returns-in_err-stress_index g c =
    let p = err_from_is_err_and c.from_residual-in_err-stress_index.result
    c.from_residual-in_err-stress_index.ensures.1 in
    rw (p.1, p.2, c.in_ok-reporting.ensures) (at_first _ _ _ c.in_err-stress_index.ensures)

pub returns-in_err-current_stats : goal.returns-in_err-current_stats
unfolding test_finished_form
returns-in_err-current_stats g c =
    let p = err_from_is_err_and c.from_residual-in_err-current_stats.result
    c.from_residual-in_err-current_stats.ensures.1 in
    rw (p.1, p.2, c.in_ok-reporting.ensures, c.in_ok-stress_index.ensures)
    (around_three _ _ _ _ _ _ c.in_err-current_stats.ensures)

pub returns-in-Err : goal.returns-in-Err
unfolding test_finished_form
returns-in-Err g c =
    rw (c.in_ok-reporting.ensures, c.in_ok-stress_index.ensures, c.in_ok-current_stats.ensures.2)
    (at_first _ _ _ c.in-Err.ensures)

pub returns : goal.returns
unfolding test_finished_form
returns g c = rw (
  c.in_ok-reporting.ensures,
  c.in_ok-stress_index.ensures,
  c.in_ok-current_stats.ensures.2,
  c.in-Ok.ensures,
  c.in_ok-current_stats.ensures.0,
  c.in_ok-current_stats.ensures.1,
) refl
