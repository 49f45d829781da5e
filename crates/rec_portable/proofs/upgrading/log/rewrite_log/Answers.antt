use Rattle.std.proofs.Common.{refl, ap, ◌∙◌}
use Rattle.rec_portable.proofs.RewrittenLogs.{log_fault, log_whole, nothing_rewritten}
use Rattle.rec_portable.proofs.RewrittenLogs.{one_rewritten, refuses_log}
use Rattle.rec_portable.proofs.upgrading.log.rewrite_log.Goals as goal

pub loop-item-init : goal.loop-item-init
loop-item-init c = nothing_rewritten _ c.new.ensures.items refl c.new-2.ensures.items

pub loop-item-preserved : goal.loop-item-preserved
loop-item-preserved c =
    one_rewritten _ c.in-Some.item _ _ c.loop-item.invariant c.in_default.ensures.ok

pub returns-in-Err : goal.returns-in-Err
returns-in-Err c =
    let has = c.loop-item.invariant in
    refuses_log c.args.log.now c.in-Some.item _ c.in-Err.ensures.err
    (λ fault is memory. log_fault c.args.log.now _ _ _ _ has.events
    (ap (λ b. b.now) c.into_iter-item-iterator.ensures.into_iter_gives ∙ c.events-events.ensures)
    has.are c.loop-item.yielded_by c.in-Some.item fault c.in-Some.ensures.steps is memory)

pub returns : goal.returns
returns c =
    let has = c.loop-item.invariant in (
      has.events,
      log_whole c.args.log.now _ _ _ _ has.events
          (ap (λ b. b.now) c.into_iter-item-iterator.ensures.into_iter_gives
          ∙ c.events-events.ensures)
          has.are c.loop-item.yielded_by c.in-None.ensures.steps,
      has.is,
    )
