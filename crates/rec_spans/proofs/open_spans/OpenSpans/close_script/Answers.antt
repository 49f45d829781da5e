use Rattle.std.proofs.Common.{◌≡◌, [], false, ap, option_to_list, refl, subst, sym, ◌∙◌}
use Rattle.rec_spans.proofs.Maps.{without-none}
use Rattle.rec_spans.proofs.open_spans.OpenSpans.close_script.Goals as goal
use Rattle.rec_spans.proofs.OpenScripts.{noted-closed}
use Rattle.rec_spans.proofs.OpenTests.{closed}
use Rattle.rec_spans.proofs.Orders.{span-get}
use Rattle.rec_spans.specs.declared.spans.Place.TheVariants as places
use Rattle.rec_spans.specs.declared.spans.SpanKey.TheVariants as keys
use Rattle.rec_spans.specs.Noted.{Renotes}
use Rattle.rec_spans.specs.Past.{of_key, without}

pub invariant_of-self : goal.invariant_of-self
invariant_of-self c =
    let index = c.args.index in
    let spans = c.self.inside.spans in
    let notes = c.self.inside.scripts.notes in
    let new = c.take.new.spans.entries in
    let tied = closed c.self.inside.slots.entries spans.entries new (keys.Script index)
    (places.Script index) c.self.invariant.0 refl c.take.ensures in
    let renotes = subst (λ name. Renotes false notes name index c.forget.new.self.notes)
    c.as_str.ensures.value c.forget.ensures.forgotten in (
      tied.0,
      noted-closed notes c.forget.new.self.notes spans.entries new index c.in-Some.span.now
          c.self.invariant.1
          (sym (span-get spans (places.Script index)) ∙ sym c.in-Some.ensures.value)
          renotes c.take.ensures,
      c.forget.ensures.none_empty c.self.invariant.2,
    )

pub returns-in-Some : goal.returns-in-Some
returns-in-Some c =
    (closed c.self.inside.slots.entries c.self.inside.spans.entries c.take.new.spans.entries
    (keys.Script c.args.index) (places.Script c.args.index) c.self.invariant.0 refl
    c.take.ensures).1
    ∙ ap (without (keys.Script c.args.index)) c.self.view_is

pub returns-in_default : goal.returns-in_default
returns-in_default c =
    let key = keys.Script c.args.index in
    let none = sym (span-get c.self.inside.spans (places.Script c.args.index))
    ∙ sym c.in_default.ensures.value in
    sym (without-none key c.args.self.now (subst (λ v. of_key key v ≡ []) c.self.view_is
    (c.self.invariant.0.at_key key ∙ ap option_to_list none)))
