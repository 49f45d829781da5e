use Rattle.std.proofs.Common.{refl}
use Rattle.std.proofs.lemmas.Result.{err_from_is_err_and}
use Rattle.rec_codec.proofs.Refusals.{at_first, at_four}
use Rattle.rec_codec.proofs.run_kinds.run_finished_from.Goals as goal
use Rattle.rec_codec.specs.CoreKindForms.{run_finished_form}

pub returns-in_err-run_id : goal.returns-in_err-run_id
unfolding run_finished_form
returns-in_err-run_id c =
    let p = err_from_is_err_and c.from_residual.result c.from_residual.ensures.1 in
    rw (p.1, p.2) (at_four _ _ _ _ _ _ c.in_err-run_id.ensures)

pub returns-in_err-outstanding_not_seen : goal.returns-in_err-outstanding_not_seen
unfolding run_finished_form
returns-in_err-outstanding_not_seen c =
    let p = err_from_is_err_and c.from_residual-in_err-outstanding_not_seen.result
    c.from_residual-in_err-outstanding_not_seen.ensures.1 in
    rw (
      p.1,
      p.2,
      c.in_ok-run_id.ensures.0,
      c.in_ok-run_id.ensures.1,
      c.in_ok-run_id.ensures.2,
      c.in_ok-run_id.ensures.3,
    ) (at_first _ _ _ c.in_err-outstanding_not_seen.ensures)

pub returns : goal.returns
unfolding run_finished_form
returns c = rw (
  c.in_ok-run_id.ensures.0,
  c.in_ok-run_id.ensures.1,
  c.in_ok-run_id.ensures.2,
  c.in_ok-run_id.ensures.3,
  c.in_ok-outstanding_not_seen.ensures,
) refl
