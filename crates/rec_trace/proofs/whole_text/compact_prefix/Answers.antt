use Rattle.std.proofs.Common.{◌++◌, codes, ap, ◌∙◌}
use Rattle.rec_trace.proofs.whole_text.compact_prefix.Goals as goal
use Rattle.rec_trace.specs.Texts.{compact_prefix}

pub returns : goal.returns
unfolding compact_prefix
returns c = λ other is.
    c.in_ok-push_str-2.ensures.bytes
    ∙ ap (λ s. s ++ codes ",\"traceEvents\":[")
    (c.in_ok-push_str.ensures.bytes ∙ ap (λ s. s ++ c.args.other_data.now) c.in_ok-prefix.ensures.ok
    ∙ ap (λ s. codes "{\"displayTimeUnit\":\"ms\",\"otherData\":" ++ s) is)
