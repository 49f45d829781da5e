use Rattle.std.proofs.Common.{◌≡◌, ◌∙◌, ◌∷◌, ◌++◌, [], ap, arith, map, subst, sym, take}
use Rattle.std.proofs.lemmas.List.{length-map, length-take-le, map-append, take_all}
use Rattle.rec_view.proofs.walk.walk_events.Goals as goal
use Rattle.rec_view.proofs.Walks.{take_more}
use Rattle.rec_view.specs.Acts.{act_of}
use Rattle.rec_view.specs.Walked.{HasWalked}

pub take-requires : goal.take-requires
take-requires g c =
    let events = c.args.events.now in
    let i = c.loop-event.event-index in
    let number : c.loop-event.walk.number ≡ i =
    c.loop-event.invariant.number ∙ length-map (take i events) (λ e. act_of e.kind)
    ∙ length-take-le i events c.loop-event.auto.event-index-end in
    record {
      room = (let lt = c.loop-event-test.true in omega (arith, number, lt));
      walked =
          (map (λ e. act_of e.kind) (take i events), c.loop-event.invariant);
    }

pub loop-event-preserved : goal.loop-event-preserved
loop-event-preserved g c =
    let events = c.args.events.now in
    let i = c.loop-event.event-index in
    let event = c.event-item.result in
    subst (λ acts. HasWalked acts c.take.new.self)
    (ap (λ a. map (λ e. act_of e.kind) (take i events) ++ a ∷ []) c.act_of.ensures
    ∙ sym (map-append (λ e. act_of e.kind) (take i events) (event ∷ []))
    ∙ ap (map (λ e. act_of e.kind))
    (sym (take_more events i event c.loop-event-test.true c.event-item.is)))
    (c.in_ok-take.ensures.ok (map (λ e. act_of e.kind) (take i events)) c.loop-event.invariant)

pub returns : goal.returns
returns g c =
    subst (λ es. HasWalked (map (λ e. act_of e.kind) es) c.loop-event.walk)
    (take_all c.loop-event.event-index c.args.events.now c.loop-event-test.false)
    c.loop-event.invariant
