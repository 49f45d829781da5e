use Rattle.std.proofs.Common.{◌≡◌, [], None, Some, ap, subst, sym, ◌∙◌}
use Rattle.std.specs.Map.{values_of}
use Rattle.rec_spans.proofs.open_spans.OpenSpans.open_test.Goals as goal
use Rattle.rec_spans.proofs.OpenScripts.{noted-other}
use Rattle.rec_spans.proofs.OpenTests.{forgotten, test-opened}
use Rattle.rec_spans.proofs.Orders.{slot-updates}
use Rattle.rec_spans.specs.declared.spans.Place.TheVariants.{Script}
use Rattle.rec_spans.specs.Noted.{AreNoted}
use Rattle.rec_spans.specs.Past.{in_place, of_key, put_in}
use Rattle.rec_spans.specs.Places.{place_eq}
use Rattle.rec_spans.specs.Tied.{AreTied}

pub invariant_of-self-in-Ok-put : goal.invariant_of-self-in-Ok-put
invariant_of-self-in-Ok-put c =
    let s = c.args.span in
    let spans = c.self.inside.spans.entries in
    let new = c.put.new.spans.entries in
    let puts = c.in-Ok-put.ensures.ok in
    let tied = test-opened c.self.inside.slots.entries c.note_slot.new.slots.entries spans new
    c.args.test.now c.args.slot s c.self.invariant.0
    c.requires.key c.requires.place
    (subst (λ v. of_key s.key v ≡ []) (sym c.self.view_is) c.requires.key_free)
    (subst (λ v. in_place s.place v ≡ []) (sym c.self.view_is) c.requires.place_free)
    puts c.in-Ok.ensures.ok in (
      tied.0,
      noted-other c.self.inside.scripts.notes spans new s.place (Some s) c.self.invariant.1
          (λ i. ap (λ p. place_eq p (Script i)) c.requires.place) puts.1,
      c.self.invariant.2,
    )

pub returns-in-Ok-put-clause-ok : goal.returns-in-Ok-put-clause-ok
returns-in-Ok-put-clause-ok c =
    let s = c.args.span in
    (test-opened c.self.inside.slots.entries c.note_slot.new.slots.entries
    c.self.inside.spans.entries c.put.new.spans.entries c.args.test.now c.args.slot s
    c.self.invariant.0 c.requires.key c.requires.place
    (subst (λ v. of_key s.key v ≡ []) (sym c.self.view_is) c.requires.key_free)
    (subst (λ v. in_place s.place v ≡ []) (sym c.self.view_is) c.requires.place_free)
    c.in-Ok-put.ensures.ok c.in-Ok.ensures.ok).1
    ∙ ap (put_in s) c.self.view_is

pub invariant_of-self-in-Err : goal.invariant_of-self-in-Err
invariant_of-self-in-Err c =
    let s = c.args.span in
    let slots = c.self.inside.slots.entries in
    let spans = c.self.inside.spans.entries in
    let noted =
    subst (AreNoted c.self.inside.scripts.notes) (sym c.in-Err.ensures.err) c.self.invariant.1 in
    let tied = subst (AreTied c.remove.new.self.entries) (sym c.in-Err.ensures.err)
    (forgotten slots c.note_slot.new.slots.entries c.remove.new.self.entries spans c.args.test.now
    c.args.slot c.self.invariant.0
    (subst (λ k. of_key k (values_of spans) ≡ []) c.requires.key
    (subst (λ v. of_key s.key v ≡ []) (sym c.self.view_is) c.requires.key_free))
    c.in-Ok.ensures.ok
    (slot-updates c.args.test.now c.note_slot.new.slots c.remove.new.self None
    c.remove.ensures.updates)) in
    (tied, noted, c.self.invariant.2)
