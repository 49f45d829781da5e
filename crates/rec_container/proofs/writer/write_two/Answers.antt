use Rattle.std.proofs.Common.{refl}
use Rattle.rec_container.proofs.Parts.{took_both, took_first, took_second}
use Rattle.rec_container.proofs.Results.{err_then, ok_then, on_err}
use Rattle.rec_container.proofs.writer.write_two.Goals as goal

pub returns-in_err-write_all-clause-fault : goal.returns-in_err-write_all-clause-fault
returns-in_err-write_all-clause-fault g c =
    on_err _ (took_first _ _ _ _ _ c.in_err-write_all.ensures.fault refl)

pub returns-clause-ok : goal.returns-clause-ok
returns-clause-ok g c =
    ok_then c.write_all-2.result
    (λ taken. took_both _ _ _ _ _ _ c.in_ok-write_all.ensures.ok taken refl)
    c.write_all-2.ensures.ok

pub returns-clause-fault : goal.returns-clause-fault
returns-clause-fault g c =
    err_then c.write_all-2.result
    (λ part. took_second _ _ _ _ _ _ c.in_ok-write_all.ensures.ok part refl)
    c.write_all-2.ensures.fault
