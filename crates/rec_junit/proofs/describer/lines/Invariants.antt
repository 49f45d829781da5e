use Rattle.std.proofs.Common.{◌≡◌, ◌++◌, ◌∷◌, codes, drop, flat_map}
use Rattle.std.specs.List.{join_by}
use Rattle.std.specs.String.{string_bytes}
use Rattle.rec_junit.proofs.describer.lines.Given as goal

-- what is left completes the lines
abbrev pub invariant-loop-other : goal.invariant-loop-other
invariant-loop-other l =
    string_bytes l.lines ++ flat_map (λ text. codes "\n" ++ text) (drop l.other-index l.others)
    ≡ join_by (λ text. text) (codes "\n") (l.first ∷ l.others)
