use Rattle.std.proofs.Common.{◌≡◌, ◌++◌, codes, drop, flat_map}
use Rattle.std.specs.String.{string_bytes}
use Rattle.rec_junit.proofs.shell.join.Given as goal
use Rattle.rec_junit.specs.Shell.{shell_word, shell_words}

-- what is left completes the line
abbrev pub invariant-loop-word : goal.invariant-loop-word
invariant-loop-word g l =
    string_bytes l.line
    ++ flat_map (λ w. codes " " ++ shell_word (g.W.Word.text_of w)) (drop l.word-index l.others)
    ≡ shell_words g.W.Word.text_of l.words
