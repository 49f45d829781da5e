use Rattle.std.proofs.Common.{ap, ◌++◌, List, ℕ}
use Rattle.rec_faults.proofs.line.Line.version.Goals as goal
use Rattle.rec_faults.proofs.Lines.{◌▸◌, spelled, version_spelled}

pub returns : goal.returns
returns g c =
    spelled _ (λ rest.
    ap (λ (l : List ℕ). c.args.label.now ++ l) (version_spelled c.args.major c.args.minor rest))
    (c.number.ensures ▸ c.number-2.ensures)
