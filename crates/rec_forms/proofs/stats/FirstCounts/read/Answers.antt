use Rattle.std.proofs.Common.{rules}
use Rattle.std.proofs.lemmas.Result.{err_from_is_err_and}
use Rattle.std.specs.Prelude.{refl}
use Rattle.rec_forms.proofs.FieldSteps.{three_refused}
use Rattle.rec_forms.proofs.stats.FirstCounts.read.Goals as goal
use Rattle.rec_forms.specs.Stats.{first_counts_form}

pub returns-in_err-exec_failed : goal.returns-in_err-exec_failed
unfolding first_counts_form
returns-in_err-exec_failed c =
    let p = err_from_is_err_and c.from_residual.result c.from_residual.ensures.1 in
    rw (p.1, p.2) (search (rules, three_refused))

pub returns : goal.returns
unfolding first_counts_form
returns c = rw (
  c.in_ok-exec_failed.ensures.0,
  c.in_ok-exec_failed.ensures.1,
  c.in_ok-exec_failed.ensures.2,
  c.in_ok-failed_timed_out.ensures.0,
  c.in_ok-failed_timed_out.ensures.1,
  c.in_ok-failed_timed_out.ensures.2,
) refl
