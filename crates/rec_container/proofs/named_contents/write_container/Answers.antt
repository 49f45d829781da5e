use Rattle.rec_container.proofs.ContentsLeft.{container_begun}
use Rattle.rec_container.proofs.named_contents.write_container.Goals as goal
use Rattle.rec_container.proofs.Parts.{took_both, took_first, took_second}
use Rattle.rec_container.proofs.Results.{err_then, ok_then, on_err}

pub returns-in_err-write_contents-clause-fault : goal.returns-in_err-write_contents-clause-fault
returns-in_err-write_contents-clause-fault g c =
    on_err _ (took_first _ _ _ _ _ c.in_err-write_contents.ensures.fault
    (container_begun c.args.contents.now))

pub returns-clause-ok : goal.returns-clause-ok
returns-clause-ok g c =
    ok_then c.write_all.result (λ taken. took_both _ _ _ _ _ _ c.in_ok-write_contents.ensures.ok
    taken (container_begun c.args.contents.now))
    c.write_all.ensures.ok

pub returns-clause-fault : goal.returns-clause-fault
returns-clause-fault g c =
    err_then c.write_all.result (λ part. took_second _ _ _ _ _ _ c.in_ok-write_contents.ensures.ok
    part (container_begun c.args.contents.now))
    c.write_all.ensures.fault
