use Rattle.std.proofs.Common.{[], Ok, Err, refl, ap, ◌∙◌}
use Rattle.std.proofs.lemmas.Result.{err_from_is_err_and}
use Rattle.rec_replay.specs.Registration.{is_registered}
use Rattle.rec_reading.proofs.Printed.{keeps-both, lines-end, lines-event, lines-fault}
use Rattle.rec_reading.proofs.Printed.{nothing-printed, printed-all, printed-more}
use Rattle.rec_reading.proofs.Printed.{printed-refused, printed-unread, same-step}
use Rattle.rec_reading.proofs.run.print_events.Goals as goal
use Rattle.rec_reading.specs.Converting.{converted}

pub loop-item-init : goal.loop-item-init
loop-item-init g c = record {
  never = c.requires.never;
  same = record { limit = refl; entries = λ es. (λ h. h, λ h. h) };
  same_printer = refl;
  printed = λ es holds. nothing-printed _ _ _ _ c.requires.begun;
}

pub loop-item-preserved : goal.loop-item-preserved
loop-item-preserved g c =
    let kept = c.loop-item.invariant in
    let step = c.in_ok-print_event.ensures in
    record {
      never = kept.never;
      same = keeps-both _ _ _ _ _ _ kept.same step.same;
      same_printer = step.same_printer ∙ kept.same_printer;
      printed =
          λ es holds. printed-more _ _ _ _ _ _ (kept.printed es holds)
          _ c.in-Some.item c.in_ok-event.event _ c.in_ok-event.was
          (λ past stands. same-step (converted (is_registered c.args.context.now.tests)
          c.args.context.now.test_list c.args.load_output es) _ _ _ _
          (g.P.EventPrinter.stands c.print_event.new.printer)
          past c.in_ok-event.event c.loop-item.text.items c.print_event.new.text.items (Ok tt)
          kept.same_printer kept.same.limit
          (step.prints es past ((kept.same.entries es).0 holds) stands));
    }

pub returns-in_err-event : goal.returns-in_err-event
returns-in_err-event g c = λ es holds.
    let has = c.loop-item.invariant.printed es holds in
    let p = err_from_is_err_and c.from_residual.result c.from_residual.ensures.1 in
    let fault = c.in_err-event.field-0.0 in
    rw (p.1, p.2) (printed-unread _ _ _ _ _ _ has c.args.events fault []
    (λ memory. lines-fault c.args.events _ _ _ _ has.events
    (ap (λ b. b.now) c.into_iter-item-iterator.ensures.into_iter_gives) has.are
    c.loop-item.yielded_by c.in-Some.item fault c.in_err-event.was c.in-Some.ensures.steps memory))

pub returns-in_err-print_event : goal.returns-in_err-print_event
returns-in_err-print_event g c = λ es holds.
    let kept = c.loop-item.invariant in
    let step = c.in_err-print_event.ensures in
    let has = kept.printed es holds in
    let p = err_from_is_err_and c.from_residual-in_err-print_event.result
    c.from_residual-in_err-print_event.ensures.1 in
    let all = lines-event c.args.events _ _ _ _ has.events
    (ap (λ b. b.now) c.into_iter-item-iterator.ensures.into_iter_gives)
    has.are c.loop-item.yielded_by c.in-Some.item c.in_ok-event.event c.in_ok-event.was
    c.in-Some.ensures.steps in
    let x = c.in_err-print_event.field-0.0 in
    rw (p.1, p.2) (printed-refused _ _ _ _ _ _ has _ all.0 c.in_ok-event.event
    c.print_event.new.text.items [] (g.P.EventPrinter.stands c.print_event.new.printer) x all.1
    (λ past stands. same-step (converted (is_registered c.args.context.now.tests)
    c.args.context.now.test_list c.args.load_output es) _ _ _ _
    (g.P.EventPrinter.stands c.print_event.new.printer)
    past c.in_ok-event.event c.loop-item.text.items c.print_event.new.text.items (Err x)
    kept.same_printer kept.same.limit
    (step.prints es past ((kept.same.entries es).0 holds) stands)))

pub returns : goal.returns
returns g c = λ es holds.
    let has = c.loop-item.invariant.printed es holds in
    printed-all _ _ _ _ _ _ has _ (lines-end c.args.events _ _ _ _ has.events
    (ap (λ b. b.now) c.into_iter-item-iterator.ensures.into_iter_gives)
    has.are c.loop-item.yielded_by c.in-None.ensures.steps)
