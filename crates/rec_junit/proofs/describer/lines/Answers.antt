use Rattle.std.proofs.Common.{codes, refl, ◌∙◌}
use Rattle.rec_junit.proofs.describer.lines.Goals as goal
use Rattle.rec_junit.proofs.Joined.{joined_all, joined_more}

pub loop-other-preserved : goal.loop-other-preserved
loop-other-preserved c =
    rw (
      c.in_ok-push_str-2.ensures.bytes,
      c.in_ok-push_str.ensures.bytes,
      c.as_str-in-loop-other.ensures.value,
    )
    (joined_more (λ text. text) (codes "\n") _ _ c.args.others.now c.loop-other.other-index
    c.other-item.result c.loop-other-test.true c.other-item.is c.loop-other.invariant)

pub loop-other-init : goal.loop-other-init
loop-other-init c = rw (c.in_ok-lines.ensures.ok, c.as_str.ensures.value) refl

pub returns : goal.returns
returns c = c.new.ensures ∙ joined_all (λ text. text) (codes "\n")
    _ _ c.args.others.now c.loop-other.other-index c.loop-other-test.false c.loop-other.invariant
