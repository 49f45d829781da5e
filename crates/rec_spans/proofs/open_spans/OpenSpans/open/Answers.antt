use Rattle.std.proofs.Common.{◌≡◌, [], Some, ap, subst, sym, ◌∙◌}
use Rattle.rec_spans.proofs.open_spans.OpenSpans.open.Goals as goal
use Rattle.rec_spans.proofs.OpenScripts.{no_script, noted-other}
use Rattle.rec_spans.proofs.OpenTests.{opened}
use Rattle.rec_spans.specs.Past.{of_key, put_in}

pub invariant_of-self-2 : goal.invariant_of-self-2
invariant_of-self-2 c =
    let s = c.args.span in
    let spans = c.self.inside.spans.entries in
    let new = c.put.new.spans.entries in
    let puts = c.in_ok-put.ensures.ok in
    let tied = opened c.self.inside.slots.entries spans new s c.self.invariant.0 c.requires.place
    (subst (λ v. of_key s.key v ≡ []) (sym c.self.view_is) c.requires.key_free) puts in (
      tied.0,
      noted-other c.self.inside.scripts.notes spans new s.place (Some s) c.self.invariant.1
          (no_script s.key s.place c.requires.place c.requires.no_script) puts.1,
      c.self.invariant.2,
    )

pub returns-clause-ok : goal.returns-clause-ok
returns-clause-ok c =
    let s = c.args.span in
    (opened c.self.inside.slots.entries c.self.inside.spans.entries c.put.new.spans.entries s
    c.self.invariant.0 c.requires.place
    (subst (λ v. of_key s.key v ≡ []) (sym c.self.view_is) c.requires.key_free)
    c.in_ok-put.ensures.ok).1
    ∙ ap (put_in s) c.self.view_is
