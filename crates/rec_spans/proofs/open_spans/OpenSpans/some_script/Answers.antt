use Rattle.std.proofs.Common.{None, Some, ap, subst, slice_get, option_copied, ◌∙◌}
use Rattle.rec_spans.proofs.open_spans.OpenSpans.some_script.Goals as goal
use Rattle.rec_spans.proofs.OpenScripts.{script-found}
use Rattle.rec_spans.proofs.Orders.{span-get, span-ordered}
use Rattle.rec_spans.specs.declared.spans.Place.TheVariants.{Script}
use Rattle.rec_spans.specs.Noted.{IsLeast, is_noted}
use Rattle.rec_spans.specs.Refusals.{scripts_in, under}

pub returns-in_err-first : goal.returns-in_err-first
returns-in_err-first c =
    let spans = c.self.inside.spans in
    let notes = c.self.inside.scripts.notes in
    let id = c.args.id.now in
    let least = subst (λ name. IsLeast (is_noted notes name) None)
    c.as_str.ensures.value c.in_err-first.ensures in
    ap option_copied c.from_residual.ensures
    ∙ script-found c.self.inside.slots.entries spans.entries c.self.invariant.0
    (span-ordered spans c.len-ordered.ensures.ordered) id notes None c.self.invariant.1 least
    ∙ ap (λ v. slice_get (under id (scripts_in v)) 0) c.self.view_is

pub returns : goal.returns
returns c =
    let spans = c.self.inside.spans in
    let notes = c.self.inside.scripts.notes in
    let id = c.args.id.now in
    let first = c.in_ok-first.first in
    let least = subst (λ name. IsLeast (is_noted notes name) (Some first))
    c.as_str.ensures.value c.in_ok-first.ensures in
    c.get.ensures.value
    ∙ span-get spans (Script first)
    ∙ script-found c.self.inside.slots.entries spans.entries c.self.invariant.0
    (span-ordered spans c.len-ordered.ensures.ordered) id notes (Some first)
    c.self.invariant.1 least
    ∙ ap (λ v. slice_get (under id (scripts_in v)) 0) c.self.view_is
