use Rattle.std.proofs.Common.{◌≡◌, None, Some, ap, refl, subst, sym, ◌∙◌}
use Rattle.rec_spans.proofs.Maps.{without-none}
use Rattle.rec_spans.proofs.open_spans.OpenSpans.close_test.Goals as goal
use Rattle.rec_spans.proofs.OpenScripts.{noted-other}
use Rattle.rec_spans.proofs.OpenTests.{test-closed, test-none}
use Rattle.rec_spans.proofs.Orders.{slot-get, slot-updates}
use Rattle.rec_spans.specs.declared.spans.Place.TheVariants.{Slot}
use Rattle.rec_spans.specs.declared.spans.SpanKey.TheVariants.{Test}
use Rattle.rec_spans.specs.Past.{without}
use Rattle.rec_spans.specs.Tied.{AreTied, slot_of}

pub invariant_of-self : goal.invariant_of-self
invariant_of-self c =
    let t = c.args.test.now in
    let n = c.in-Some.slot in
    let slots = c.self.inside.slots in
    let spans = c.self.inside.spans.entries in
    let line : slot_of slots.entries t ≡ Some n =
    sym (slot-get slots t) ∙ sym c.remove.ensures.value ∙ c.in-Some.is in
    let tied = test-closed slots.entries c.remove.new.self.entries spans c.take.new.spans.entries t
    n c.self.invariant.0 line c.take.ensures
    (slot-updates t slots c.remove.new.self None c.remove.ensures.updates) in (
      tied.0,
      noted-other c.self.inside.scripts.notes spans c.take.new.spans.entries (Slot n)
          None c.self.invariant.1 (λ i. refl) c.take.ensures.1,
      c.self.invariant.2,
    )

pub invariant_of-self-in_default : goal.invariant_of-self-in_default
invariant_of-self-in_default c = (
  subst (λ slots. AreTied slots c.self.inside.spans.entries) (sym c.in_default.ensures.unchanged)
      c.self.invariant.0,
  c.self.invariant.1,
  c.self.invariant.2,
)

pub returns-in-Some : goal.returns-in-Some
returns-in-Some c =
    let t = c.args.test.now in
    let n = c.in-Some.slot in
    let slots = c.self.inside.slots in
    let line : slot_of slots.entries t ≡ Some n =
    sym (slot-get slots t) ∙ sym c.remove.ensures.value ∙ c.in-Some.is in
    (test-closed slots.entries c.remove.new.self.entries c.self.inside.spans.entries
    c.take.new.spans.entries t n c.self.invariant.0 line c.take.ensures
    (slot-updates t slots c.remove.new.self None c.remove.ensures.updates)).1
    ∙ ap (without (Test t)) c.self.view_is

pub returns-in_default : goal.returns-in_default
returns-in_default c =
    let t = c.args.test.now in
    let slots = c.self.inside.slots in
    let none : slot_of slots.entries t ≡ None =
    sym (slot-get slots t) ∙ sym c.remove.ensures.value ∙ c.in_default.is in
    sym (without-none (Test t) _
    (test-none slots.entries c.self.inside.spans.entries c.self.invariant.0 t none))
    ∙ ap (without (Test t)) c.self.view_is
