use Rattle.std.proofs.Common.{◌≡◌, ◌∙◌, ◌+◌, suc, Some, ap, arith, length}
use Rattle.std.proofs.Common.{map, option_map, refl, slice_get, subst}
use Rattle.std.proofs.lemmas.List.{length-map}
use Rattle.std.proofs.lemmas.Option.{slice_get-map, slice_get_read}
use Rattle.std.proofs.lemmas.Result.{err_from_is_err_and}
use Rattle.rec_spans.specs.Plain.{plain}
use Rattle.rec_slots.proofs.usage.slot_usage.Goals as goal
use Rattle.rec_slots.specs.Walked.{HasWalked}

pub loop-event-init : goal.loop-event-init
loop-event-init c = c.new-walk.ensures (map plain c.args.events.now)

pub take-requires : goal.take-requires
take-requires c =
    let events = c.args.events.now in
    let i = c.loop-event.event-index in
    let at : slice_get (map plain events) i ≡ Some (plain c.event-item.result) =
    slice_get-map plain events i ∙ ap (option_map plain) (slice_get_read events (length events)
    i c.event-item.result refl c.loop-event-test.true c.event-item.is) in
    record { events = map plain events; n = i; at = at; walked = c.loop-event.invariant }

pub returns-in_err-take : goal.returns-in_err-take
returns-in_err-take c =
    let p = err_from_is_err_and c.from_residual.result c.from_residual.ensures.1 in
    let events = c.args.events.now in
    let i = c.loop-event.event-index in
    let at : slice_get (map plain events) i ≡ Some (plain c.event-item.result) =
    slice_get-map plain events i ∙ ap (option_map plain) (slice_get_read events (length events)
    i c.event-item.result refl c.loop-event-test.true c.event-item.is) in
    let refused = c.in_err-take.ensures (map plain events) i at c.loop-event.invariant in
    rw (p.1, p.2) (record { reports = refused })

pub loop-event-preserved : goal.loop-event-preserved
loop-event-preserved c =
    let events = c.args.events.now in
    let i = c.loop-event.event-index in
    let at : slice_get (map plain events) i ≡ Some (plain c.event-item.result) =
    slice_get-map plain events i ∙ ap (option_map plain) (slice_get_read events (length events)
    i c.event-item.result refl c.loop-event-test.true c.event-item.is) in
    let more : suc i ≡ i + 1 = omega arith in
    subst (λ k. HasWalked (map plain events) k c.take.new.self) more
    (c.in_ok-take.ensures (map plain events) i at c.loop-event.invariant)

pub report-requires : goal.report-requires
report-requires c =
    let events = c.args.events.now in
    let all : c.loop-event.event-index ≡ length (map plain events) =
    (let e = length-map events plain in let last = c.loop-event.auto.event-index-end in
    omega (arith, e, last, c.loop-event-test.false)) in (
      map plain events,
      subst (λ k. HasWalked (map plain events) k c.loop-event.walk) all c.loop-event.invariant,
    )

pub returns : goal.returns
returns c =
    let events = c.args.events.now in
    let all : c.loop-event.event-index ≡ length (map plain events) =
    (let e = length-map events plain in let last = c.loop-event.auto.event-index-end in
    omega (arith, e, last, c.loop-event-test.false)) in
    record {
      reports =
          c.report.ensures (map plain events) (subst
          (λ k. HasWalked (map plain events) k c.loop-event.walk) all c.loop-event.invariant);
    }
