use Rattle.std.proofs.Common.{refl}
use Rattle.std.proofs.lemmas.Result.{err_from_is_err_and}
use Rattle.rec_reading.proofs.Opened.{part-refused, same-store}
use Rattle.rec_reading.proofs.parts.read_tests.Goals as goal

pub returns-in_err-read_test_list-clause-tests : goal.returns-in_err-read_test_list-clause-tests
returns-in_err-read_test_list-clause-tests c =
    let p = err_from_is_err_and c.from_residual.result c.from_residual.ensures.1 in
    let e = c.in_err-read_test_list in
    rw (p.1, p.2)
    (part-refused _ _ (e.ensures.answer c.args.store.now.entries refl) e.ensures.cause.failed)

pub returns-in_err-read_test_list-clause-same : goal.returns-in_err-read_test_list-clause-same
returns-in_err-read_test_list-clause-same c = same-store _ _ c.in_err-read_test_list.ensures.same

pub returns-clause-same : goal.returns-clause-same
returns-clause-same c = same-store _ _ c.in_ok-read_test_list.ensures.same
