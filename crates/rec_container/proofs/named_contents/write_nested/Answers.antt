use Rattle.std.proofs.Common.{arith}
use Rattle.std.proofs.KnownBytes.{Appends-trans}
use Rattle.rec_container.proofs.ContentsLeft.{nested_after, nested_at, nested_end, nested_parts}
use Rattle.rec_container.proofs.named_contents.write_nested.Goals as goal
use Rattle.rec_container.proofs.Parts.{cause_at, cause_of_last, took_both}
use Rattle.rec_container.proofs.Parts.{took_first, took_part, took_second}
use Rattle.rec_container.proofs.Results.{err_then, ok_then, on_err}

pub returns-in_err-write_contents-clause-fault : goal.returns-in_err-write_contents-clause-fault
returns-in_err-write_contents-clause-fault g c =
    on_err _ (took_first _ _ _ _ _ c.in_err-write_contents.ensures.fault
    (nested_parts c.args.contents.now c.args.name.now c.args.inner.now.entries))

pub returns-in_err-write_head-clause-fault : goal.returns-in_err-write_head-clause-fault
returns-in_err-write_head-clause-fault g c =
    let whole = nested_at c.args.contents.now c.args.name.now c.args.inner.now.entries
    c.sizes.result.compressed c.sizes.ensures.sizes.compressed in
    on_err _ (took_part _ _ _ _ _ _ _ c.in_ok-write_contents.ensures.ok
    c.in_err-write_head.ensures.fault whole)

pub returns-in_err-write_to-clause-fault : goal.returns-in_err-write_to-clause-fault
returns-in_err-write_to-clause-fault g c =
    let whole = nested_after c.args.contents.now c.args.name.now c.args.inner.now.entries
    c.sizes.result.compressed c.sizes.ensures.sizes.compressed in
    let before =
    Appends-trans _ _ _ _ _ c.in_ok-write_contents.ensures.ok c.in_ok-write_head.ensures.ok in
    on_err _ (took_part _ _ _ _ _ _ _ before c.in_err-write_to.ensures.fault whole)

pub returns-clause-ok : goal.returns-clause-ok
returns-clause-ok g c =
    let whole = nested_end c.args.contents.now c.args.name.now c.args.inner.now.entries
    c.sizes.result.compressed c.sizes.ensures.sizes.compressed in
    let before = Appends-trans _ _ _ _ _
    (Appends-trans _ _ _ _ _ c.in_ok-write_contents.ensures.ok c.in_ok-write_head.ensures.ok)
    c.in_ok-write_to.ensures.ok in
    ok_then c.write_all.result (λ taken. took_both _ _ _ _ _ _ before taken whole)
    c.write_all.ensures.ok

pub returns-clause-fault : goal.returns-clause-fault
returns-clause-fault g c =
    let whole = nested_end c.args.contents.now c.args.name.now c.args.inner.now.entries
    c.sizes.result.compressed c.sizes.ensures.sizes.compressed in
    let before = Appends-trans _ _ _ _ _
    (Appends-trans _ _ _ _ _ c.in_ok-write_contents.ensures.ok c.in_ok-write_head.ensures.ok)
    c.in_ok-write_to.ensures.ok in
    err_then c.write_all.result (λ part. took_second _ _ _ _ _ _ before part whole)
    c.write_all.ensures.fault

pub returns-in_err-write_head-clause-cause : goal.returns-in_err-write_head-clause-cause
returns-in_err-write_head-clause-cause g c =
    let h = c.in_err-write_head.ensures.cause in
    cause_at _ _ _ _ c.in_ok-write_contents.ensures.cause.later h.later h.failed

pub returns-in_err-write_to-clause-cause : goal.returns-in_err-write_to-clause-cause
returns-in_err-write_to-clause-cause g c =
    let h = c.in_err-write_to.ensures.cause in
    cause_at _ (g.T.Sink.faults c.write_head.new.sink) _ _ (omega (
      arith,
      c.in_ok-write_contents.ensures.cause.later,
      c.in_ok-write_head.ensures.cause.later,
    )) h.later h.failed

pub returns-clause-cause : goal.returns-clause-cause
returns-clause-cause g c =
    cause_of_last _ (g.T.Sink.faults c.write_to.new.sink) _ c.write_all.result
    (omega (
      arith,
      c.in_ok-write_contents.ensures.cause.later,
      c.in_ok-write_head.ensures.cause.later,
      c.in_ok-write_to.ensures.cause.later,
    )) c.write_all.ensures.cause
