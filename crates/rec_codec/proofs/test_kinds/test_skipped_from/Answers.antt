use Rattle.std.proofs.Common.{refl}
use Rattle.std.proofs.lemmas.Result.{err_from_is_err_and}
use Rattle.rec_codec.proofs.Refusals.{at_first, at_three}
use Rattle.rec_codec.proofs.test_kinds.test_skipped_from.Goals as goal
use Rattle.rec_codec.specs.CoreKindForms.{test_skipped_form}

pub returns-in_err-stress_index : goal.returns-in_err-stress_index
unfolding test_skipped_form
returns-in_err-stress_index c =
    let p = err_from_is_err_and c.from_residual.result c.from_residual.ensures.1 in
    rw (p.1, p.2) (at_first _ _ _ c.in_err-stress_index.ensures)

pub returns-in_err-test_instance : goal.returns-in_err-test_instance
unfolding test_skipped_form
returns-in_err-test_instance c =
    let p = err_from_is_err_and c.from_residual-in_err-test_instance.result
    c.from_residual-in_err-test_instance.ensures.1 in
    rw (p.1, p.2, c.in_ok-stress_index.ensures) (at_three _ _ _ _ _ c.in_err-test_instance.ensures)

pub returns : goal.returns
unfolding test_skipped_form
returns c = rw (
  c.in_ok-stress_index.ensures,
  c.in_ok-test_instance.ensures.0,
  c.in_ok-test_instance.ensures.1,
  c.in_ok-test_instance.ensures.2,
) refl
