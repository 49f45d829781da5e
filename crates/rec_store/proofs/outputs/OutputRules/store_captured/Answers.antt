use Rattle.std.proofs.Common.{Some, sym, ap}
use Rattle.std.proofs.lemmas.Result.{err_from_is_err_and}
use Rattle.rec_store.proofs.outputs.OutputRules.store_captured.Goals as goal

pub returns-in_err-store_output-in-Some : goal.returns-in_err-store_output-in-Some
returns-in_err-store_output-in-Some g c =
    let p = err_from_is_err_and c.from_residual.result c.from_residual.ensures.1 in
    rw (p.1, p.2, c.in-Some.is, sym c.as_bytes.ensures.value) c.in_err-store_output-in-Some.ensures

pub returns-in_ok-store_output-in-Some : goal.returns-in_ok-store_output-in-Some
returns-in_ok-store_output-in-Some g c =
    let h = c.in_ok-store_output-in-Some.ensures in
    rw (c.in-Some.is, sym c.as_bytes.ensures.value) (ap Some h.0, h.1, h.2)
