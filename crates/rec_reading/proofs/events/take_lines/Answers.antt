use Rattle.std.proofs.Common.{[], ◌∷◌, ◌++◌, map, Ok, refl, ap, sym, ◌∙◌}
use Rattle.std.proofs.lemmas.List.{map-append}
use Rattle.std.proofs.lemmas.Result.{err_from_is_err_and}
use Rattle.rec_reading.proofs.events.take_lines.Goals as goal
use Rattle.rec_reading.proofs.EventsRead.{all-read, fault-read}
use Rattle.rec_reading.proofs.Printed.{lines-end, lines-fault}

pub loop-item-init : goal.loop-item-init
loop-item-init g c = ([], refl, g.met.T.EventTaker.takes_none c.args.taker.now)

pub returns-in_err-event : goal.returns-in_err-event
returns-in_err-event g c =
    let p = err_from_is_err_and c.from_residual.result c.from_residual.ensures.1 in
    let fault = c.in_err-event.field-0.0 in
    let so_far = c.loop-item.invariant in
    rw (p.1, p.2) (fault-read c.args.items so_far.0 fault
    (λ memory. lines-fault c.args.items _ _ _ _ so_far.0
    (ap (λ b. b.now) c.into_iter-item-iterator.ensures.into_iter_gives) so_far.1
    c.loop-item.yielded_by c.in-Some.item fault c.in_err-event.was c.in-Some.ensures.steps memory))

pub loop-item-preserved : goal.loop-item-preserved
loop-item-preserved g c =
    let event = c.in_ok-event.event in
    let so_far = c.loop-item.invariant in (
      so_far.0 ++ event ∷ [],
      ap (λ l. l ++ c.in-Some.item ∷ []) so_far.1
          ∙ ap (λ i. map Ok so_far.0 ++ i ∷ []) c.in_ok-event.was
          ∙ sym (map-append Ok so_far.0 (event ∷ [])),
      c.in_ok-take_and_discard.ensures c.args.taker.now so_far.0 so_far.2,
    )

pub returns : goal.returns
returns g c =
    let so_far = c.loop-item.invariant in (
      so_far.0,
      all-read c.args.items so_far.0 (lines-end c.args.items _ _ _ _ so_far.0
          (ap (λ b. b.now) c.into_iter-item-iterator.ensures.into_iter_gives)
          so_far.1 c.loop-item.yielded_by c.in-None.ensures.steps),
      so_far.2,
    )
