use Rattle.std.proofs.Common.{◌≡◌, None, Some, ap, option_copied, option_to_list, sym, ◌∙◌}
use Rattle.rec_spans.proofs.open_spans.OpenSpans.test.Goals as goal
use Rattle.rec_spans.proofs.OpenTests.{test-none, test-some}
use Rattle.rec_spans.proofs.Orders.{slot-get, span-get}
use Rattle.rec_spans.specs.declared.spans.Place.TheVariants.{Slot}
use Rattle.rec_spans.specs.declared.spans.SpanKey.TheVariants.{Test}
use Rattle.rec_spans.specs.Past.{of_key}
use Rattle.rec_spans.specs.Tied.{slot_of}

pub returns-in_err-slot : goal.returns-in_err-slot
returns-in_err-slot c =
    let t = c.args.test.now in
    let slots = c.self.inside.slots in
    let none : slot_of slots.entries t ≡ None =
    sym (slot-get slots t) ∙ sym c.get.ensures.value ∙ ap option_copied c.in_err-slot.was in
    ap (λ o. option_to_list (option_copied o)) c.from_residual.ensures
    ∙ sym (test-none slots.entries c.self.inside.spans.entries c.self.invariant.0 t none)
    ∙ ap (of_key (Test t)) c.self.view_is

pub returns : goal.returns
returns c =
    let t = c.args.test.now in
    let n = c.in_ok-slot.slot.now in
    let slots = c.self.inside.slots in
    let spans = c.self.inside.spans in
    let line : slot_of slots.entries t ≡ Some n =
    sym (slot-get slots t) ∙ sym c.get.ensures.value ∙ ap option_copied c.in_ok-slot.was in
    ap option_to_list (c.get-2.ensures.value ∙ span-get spans (Slot n))
    ∙ test-some slots.entries spans.entries c.self.invariant.0 t n line
    ∙ ap (of_key (Test t)) c.self.view_is
