use Rattle.std.proofs.Common.{[], ◌∷◌, ◌++◌, map, Ok, ap, sym, ◌∙◌}
use Rattle.std.proofs.lemmas.List.{map-append}
use Rattle.std.proofs.lemmas.Result.{err_from_is_err_and}
use Rattle.rec_reading.proofs.events.read_events.Goals as goal
use Rattle.rec_reading.proofs.EventsRead.{all-read, fault-read}
use Rattle.rec_reading.proofs.Printed.{lines-end, lines-fault}

pub loop-item-init : goal.loop-item-init
loop-item-init c = sym (ap (map Ok) c.new-events.ensures.items)

pub returns-in_err-event : goal.returns-in_err-event
returns-in_err-event c =
    let p = err_from_is_err_and c.from_residual.result c.from_residual.ensures.1 in
    let fault = c.in_err-event.field-0.0 in
    rw (p.1, p.2) (fault-read c.args.items c.loop-item.events.items fault
    (λ memory. lines-fault c.args.items _ _ _ _ c.loop-item.events.items
    (ap (λ b. b.now) c.into_iter-item-iterator.ensures.into_iter_gives) c.loop-item.invariant
    c.loop-item.yielded_by c.in-Some.item fault c.in_err-event.was c.in-Some.ensures.steps memory))

pub loop-item-preserved : goal.loop-item-preserved
loop-item-preserved c =
    let event = c.in_ok-event.event in
    let before = c.loop-item.events.items in
    ap (λ l. l ++ c.in-Some.item ∷ []) c.loop-item.invariant
    ∙ ap (λ i. map Ok before ++ i ∷ []) c.in_ok-event.was ∙ sym (map-append Ok before (event ∷ []))
    ∙ ap (map Ok) (sym c.in_ok-add_event.ensures)

pub returns : goal.returns
returns c =
    all-read c.args.items c.loop-item.events.items
    (lines-end c.args.items _ _ _ _ c.loop-item.events.items
    (ap (λ b. b.now) c.into_iter-item-iterator.ensures.into_iter_gives)
    c.loop-item.invariant c.loop-item.yielded_by c.in-None.ensures.steps)
