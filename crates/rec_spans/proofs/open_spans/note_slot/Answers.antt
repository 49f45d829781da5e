use Rattle.std.proofs.Common.{Some, subst}
use Rattle.rec_spans.proofs.open_spans.note_slot.Goals as goal
use Rattle.rec_spans.proofs.Orders.{slot-updates}
use Rattle.rec_spans.specs.Tied.{SetsSlot}

pub returns-clause-ok : goal.returns-clause-ok
returns-clause-ok c =
    let slots = c.args.slots.now in
    let new = c.insert.new.self in
    subst (λ test. SetsSlot test (Some c.args.slot) slots.entries new.entries)
    c.in_ok-try_clone.ensures.copy
    (slot-updates c.in_ok-try_clone.field-0 slots new (Some c.args.slot)
    c.in_ok-insert.ensures.updates)
