use Rattle.std.proofs.Common.{◌-◌, length, drop, arith, ap, ◌∙◌}
use Rattle.std.proofs.lemmas.List.{length-drop, take_all}
use Rattle.rec_trace.proofs.event_texts.without_brackets.Goals as goal
use Rattle.rec_trace.proofs.TraceTexts.{nested-text}

pub returns-then-lines-lt5 : goal.returns-then-lines-lt5
returns-then-lines-lt5 c = λ d is.
    let long = ap length (is ∙ nested-text d) in
    absurd (omega (arith, long, c.if-lines-lt5.true))

pub returns-else-lines-lt5 : goal.returns-else-lines-lt5
returns-else-lines-lt5 c = λ d is.
    let lines = c.args.lines.now in
    take_all (length lines - 5) (drop 5 lines) (omega (arith, length-drop 5 lines))
    ∙ ap (drop 5) (is ∙ nested-text d)
