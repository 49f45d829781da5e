use Rattle.std.proofs.Common.{ap₂, length, min, ◌∙◌}
use Rattle.rec_format.proofs.run_ids.common_len.Goals as goal
use Rattle.rec_format.proofs.SharedTexts.{all_compared}

pub returns : goal.returns
returns c =
    all_compared c.args.a.now c.args.b.now c.loop-i.i c.min-len.result c.loop-i.invariant
    c.loop-i.auto.i-end c.loop-i-test.false
    (c.min-len.ensures
    ∙ ap₂ (λ x y. min (length x) (length y)) c.as_bytes-a.ensures.value c.as_bytes-b.ensures.value)
