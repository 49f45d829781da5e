use Rattle.std.proofs.Common.{refl}
use Rattle.std.proofs.lemmas.Result.{err_from_is_err_and}
use Rattle.rec_codec.proofs.Refusals.{at_first}
use Rattle.rec_codec.proofs.status.ExecuteStatusLoadedForm.from_node.Goals as goal
use Rattle.rec_codec.specs.Status.{status_form}

pub returns-in_err-before : goal.returns-in_err-before
unfolding status_form
returns-in_err-before g c =
    let p = err_from_is_err_and c.from_residual.result c.from_residual.ensures.1 in
    record { read = rw (p.1, p.2, ← c.in-Some.ensures) (at_first _ _ _ c.in_err-before.ensures) }

pub returns-in_err-after : goal.returns-in_err-after
unfolding status_form
returns-in_err-after g c =
    let p = err_from_is_err_and c.from_residual-in_err-after.result
    c.from_residual-in_err-after.ensures.1 in
    record {
      read =
          rw (p.1, p.2, ← c.in-Some.ensures, c.in_ok-before.ensures)
          (at_first _ _ _ c.in_err-after.ensures);
    }

pub returns-in-Err : goal.returns-in-Err
unfolding status_form
returns-in-Err g c = record {
  read =
      rw (← c.in-Some.ensures, c.in_ok-before.ensures, c.in_ok-after.ensures)
      (at_first _ _ _ c.in-Err.ensures);
}

pub returns : goal.returns
unfolding status_form
returns g c = record {
  read =
      rw (← c.in-Some.ensures, c.in_ok-before.ensures, c.in_ok-after.ensures, c.in-Ok.ensures) refl;
}
