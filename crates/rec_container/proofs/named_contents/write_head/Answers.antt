use Rattle.std.proofs.Common.{◌++◌, ap, sym, ◌∙◌}
use Rattle.rec_container.proofs.ContentsLeft.{head_parts}
use Rattle.rec_container.proofs.named_contents.write_head.Goals as goal
use Rattle.rec_container.proofs.Parts.{took_both, took_first, took_second}
use Rattle.rec_container.proofs.Results.{err_then, ok_then, on_err}
use Rattle.rec_container.specs.NamedContents.{tagged_name}

pub returns-in_err-write_name-clause-fault : goal.returns-in_err-write_name-clause-fault
returns-in_err-write_name-clause-fault g c =
    on_err _ (took_first _ _ _ _ _ c.in_err-write_name.ensures.fault
    (head_parts c.args.name.now c.args.content))

pub returns-clause-ok : goal.returns-clause-ok
returns-clause-ok g c =
    let parts = head_parts c.args.name.now c.args.content
    ∙ ap (λ l. tagged_name c.args.name.now ++ l) (sym c.to_be_bytes.ensures) in
    ok_then c.write_all.result
    (λ taken. took_both _ _ _ _ _ _ c.in_ok-write_name.ensures.ok taken parts)
    c.write_all.ensures.ok

pub returns-clause-fault : goal.returns-clause-fault
returns-clause-fault g c =
    let parts = head_parts c.args.name.now c.args.content
    ∙ ap (λ l. tagged_name c.args.name.now ++ l) (sym c.to_be_bytes.ensures) in
    err_then c.write_all.result
    (λ part. took_second _ _ _ _ _ _ c.in_ok-write_name.ensures.ok part parts)
    c.write_all.ensures.fault
