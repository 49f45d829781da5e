use Rattle.std.proofs.Common.{◌≡◌, ◌∙◌, ◌∷◌, ◌++◌, [], refl, subst, sym, ap, take}
use Rattle.std.proofs.Common.{of_z, to_z, FitsSigned, ℤ}
use Rattle.std.proofs.lemmas.Int.{to_z-of_z}
use Rattle.std.proofs.lemmas.List.{take_all}
use Rattle.std.specs.Int.{w64}
use Rattle.rec_view.proofs.Attempts.{differ}
use Rattle.rec_view.proofs.GapsShown.{got}
use Rattle.rec_view.proofs.instants.Instants.new.Goals as goal
use Rattle.rec_view.proofs.InstantsTold.{AreStamps, all_told, out_of_range, stamps_more}
use Rattle.rec_view.proofs.Walks.{take_more}
use Rattle.rec_view.specs.Instants.{are_in_range}

pub loop-event-init : goal.loop-event-init
loop-event-init g c = record {
  are = c.new-micros.ensures.items;
  in_range = ap are_in_range c.new-micros.ensures.items;
}

pub loop-event-preserved : goal.loop-event-preserved
loop-event-preserved g c =
    let events = c.args.events.now in
    let i = c.loop-event.event-index in
    let event = c.event-item.result in
    let instant = c.in-Some.instant in
    let whole : to_z w64 (of_z w64 instant) ≡ instant =
    to_z-of_z w64 instant
    (subst (FitsSigned w64) (sym c.in-Some.ensures.value) (c.in-Some.ensures.some.0 refl)) in
    let old = c.loop-event.micros.items in
    subst (λ es. AreStamps es c.push.new.self.items)
    (sym (take_more events i event c.loop-event-test.true c.event-item.is))
    (subst (AreStamps (take i events ++ event ∷ []))
    {x = old ++ instant ∷ []} {y = c.push.new.self.items}
    (sym (c.in_ok-push.ensures.items ∙ ap (λ (t : ℤ). old ++ t ∷ []) whole))
    (stamps_more (take i events) event old instant c.in-Some.ensures.value
    (c.in-Some.ensures.some.0 refl) c.loop-event.invariant))

pub returns-in_default : goal.returns-in_default
returns-in_default g c =
    let none = c.in_default.ensures.some in
    out_of_range c.args.events.now c.loop-event.event-index c.event-item.result
    (got c.args.events.now c.loop-event.event-index c.event-item.result c.loop-event-test.true
    c.event-item.is) (λ small. differ (sym (none.1 small)))

pub returns : goal.returns
returns g c =
    all_told c.args.events.now (record { micros = c.loop-event.micros })
    (subst (λ es. AreStamps es c.loop-event.micros.items)
    (take_all c.loop-event.event-index c.args.events.now c.loop-event-test.false)
    c.loop-event.invariant)
