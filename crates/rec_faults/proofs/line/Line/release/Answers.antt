use Rattle.std.proofs.Common.{ap, ◌++◌, List, ℕ}
use Rattle.rec_faults.proofs.line.Line.release.Goals as goal
use Rattle.rec_faults.proofs.Lines.{◌▸◌, release_spelled, spelled}

pub returns : goal.returns
returns g c =
    spelled _
    (λ rest. ap (λ (l : List ℕ). c.args.label.now ++ l) (release_spelled c.args.release rest))
    (c.number.ensures ▸ (c.number-2.ensures ▸ c.number-3.ensures))
