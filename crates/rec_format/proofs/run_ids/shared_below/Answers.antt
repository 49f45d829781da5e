use Rattle.std.proofs.Common.{ap, ap₂, is_some, nat_eq, ◌∙◌}
use Rattle.std.specs.List.{common_prefix_len}
use Rattle.rec_format.proofs.run_ids.shared_below.Goals as goal
use Rattle.rec_format.proofs.RunIdMaps.{most_below}

pub returns-in-Some : goal.returns-in-Some
returns-in-Some c =
    let inside = (c.range.ensures.in_range tt).3 _ _ c.in-Some.ensures.steps in
    let greatest = (c.range.ensures.in_range tt).4 _ _ c.in-Some.ensures.steps in
    most_below c.args.entries.now c.args.text.now c.in-Some.key.now c.common_len.result
    (c.common_len.ensures
    ∙ ap₂ (λ x y. common_prefix_len nat_eq x y) c.deref.ensures c.deref-in-Some.ensures)
    inside.0.1 (ap is_some inside.1) (λ q below some. greatest q (tt, below) some)
