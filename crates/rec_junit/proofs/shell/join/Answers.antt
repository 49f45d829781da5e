use Rattle.std.proofs.Common.{codes, refl}
use Rattle.rec_junit.proofs.Joined.{joined_all, joined_more}
use Rattle.rec_junit.proofs.shell.join.Goals as goal
use Rattle.rec_junit.specs.Shell.{shell_word}

pub loop-word-preserved : goal.loop-word-preserved
loop-word-preserved g c =
    rw (c.in_ok-put_word-2.ensures, c.in_ok-push_str.ensures.bytes, c.text-in-loop-word.ensures)
    (joined_more (λ w. shell_word (g.W.Word.text_of w)) (codes " ") _ _ c.in-Some.others.now
    c.loop-word.word-index c.word-item.result c.loop-word-test.true c.word-item.is
    c.loop-word.invariant)

pub loop-word-init : goal.loop-word-init
loop-word-init g c =
    rw
    (c.in_ok-put_word.ensures, c.new-line.ensures.bytes, c.text.ensures, c.in-Some.ensures.cases.0)
    refl

pub returns : goal.returns
returns g c =
    joined_all (λ w. shell_word (g.W.Word.text_of w)) (codes " ")
    _ _ c.in-Some.others.now c.loop-word.word-index c.loop-word-test.false c.loop-word.invariant
