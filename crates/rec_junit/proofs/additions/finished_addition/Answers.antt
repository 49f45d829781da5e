use Rattle.std.proofs.Common.{Some, Ok, sym}
use Rattle.std.proofs.lemmas.Result.{err_from_is_err_and}
use Rattle.rec_junit.proofs.additions.finished_addition.Goals as goal
use Rattle.rec_junit.proofs.Attempts.{described}
use Rattle.rec_junit.proofs.Judged.{refused_before}
use Rattle.rec_junit.specs.Additions.{test_addition}

pub returns-in_err-case : goal.returns-in_err-case
returns-in_err-case g c =
    let tried =
    described c.args.statuses.now c.describe-attempts.result c.describe-attempts.ensures in
    let p = err_from_is_err_and c.from_residual.result c.from_residual.ensures.1 in
    rw (p.1, p.2, tried, sym c.flaky_result.ensures) (refused_before c.in_err-case.field-0.0 _
    (λ case. Ok (Some (test_addition c.args.stress_index.now c.args.test.now case)))
    c.in_err-case.ensures)

pub returns : goal.returns
returns g c =
    let tried =
    described c.args.statuses.now c.describe-attempts.result c.describe-attempts.ensures in
    rw (tried, sym c.flaky_result.ensures, c.in_ok-case.ensures) c.test_addition.ensures
