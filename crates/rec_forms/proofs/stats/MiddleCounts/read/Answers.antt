use Rattle.std.proofs.Common.{rules}
use Rattle.std.proofs.lemmas.Result.{err_from_is_err_and}
use Rattle.std.specs.Prelude.{refl}
use Rattle.rec_forms.proofs.FieldSteps.{three_refused}
use Rattle.rec_forms.proofs.stats.MiddleCounts.read.Goals as goal
use Rattle.rec_forms.specs.Stats.{middle_counts_form}

pub returns-in_err-initial_run_count : goal.returns-in_err-initial_run_count
unfolding middle_counts_form
returns-in_err-initial_run_count c =
    let p = err_from_is_err_and c.from_residual.result c.from_residual.ensures.1 in
    rw (p.1, p.2) (search (rules, three_refused))

pub returns-in_err-passed : goal.returns-in_err-passed
unfolding middle_counts_form
returns-in_err-passed c =
    let p = err_from_is_err_and c.from_residual-in_err-passed.result
    c.from_residual-in_err-passed.ensures.1 in
    rw (
      p.1,
      p.2,
      c.in_ok-initial_run_count.ensures.0,
      c.in_ok-initial_run_count.ensures.1,
      c.in_ok-initial_run_count.ensures.2,
    ) (search (rules, three_refused))

pub returns : goal.returns
unfolding middle_counts_form
returns c = rw (
  c.in_ok-initial_run_count.ensures.0,
  c.in_ok-initial_run_count.ensures.1,
  c.in_ok-initial_run_count.ensures.2,
  c.in_ok-passed.ensures.0,
  c.in_ok-passed.ensures.1,
  c.in_ok-passed.ensures.2,
) refl
