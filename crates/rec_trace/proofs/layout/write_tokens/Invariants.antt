use Rattle.std.proofs.Common.{◌≡◌, List, ◌++◌, length}
use Rattle.json.specs.Token.{Token}
use Rattle.rec_trace.proofs.layout.write_tokens.Given as goal

-- what was written and what is left are all tokens
abbrev pub invariant-loop-token : goal.invariant-loop-token
invariant-loop-token l =
    (written : List Token) × (l.lines ≡ l.fn.lines ++ written) × (l.fn.reader ≡ written ++ l.reader)

abbrev pub decreases-loop-token : goal.decreases-loop-token
decreases-loop-token l = length l.reader
