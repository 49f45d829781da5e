use Rattle.std.proofs.Common.{Some, ◌++◌, ◌∷◌, [], append_assoc, append-nil, ap, sym, ◌∙◌}
use Rattle.rec_events.specs.Pairs.{pairs}
use Rattle.rec_junit.proofs.additions.put_variables.Goals as goal
use Rattle.rec_junit.specs.Additions.{variables}

pub loop-name-preserved : goal.loop-name-preserved
loop-name-preserved c =
    let left = variables (Some (pairs c.next.new.self)) in
    ap (λ items. items ++ left) c.in_ok-push.ensures.items
    ∙ append_assoc c.loop-name.properties.items (c.in_ok-variable.field-0 ∷ []) left
    ∙ rw (c.in_ok-variable.ensures, c.as_str.ensures.value)
    (ap (λ es. c.loop-name.properties.items ++ variables (Some (pairs es)))
    (sym c.in-Some.ensures.steps))
    ∙ c.loop-name.invariant

pub returns : goal.returns
returns c =
    let none = ap (λ es. c.loop-name.properties.items ++ variables (Some (pairs es)))
    c.in-None.ensures.steps.0 in
    sym (append-nil c.loop-name.properties.items) ∙ sym none ∙ c.loop-name.invariant
