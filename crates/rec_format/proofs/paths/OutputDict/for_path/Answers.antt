use Rattle.std.proofs.Common.{Some, None}
use Rattle.rec_format.proofs.PathPieces.{pieces_split, dict_alone, dict_elsewhere}
use Rattle.rec_format.proofs.paths.OutputDict.for_path.Goals as goal
use Rattle.rec_format.specs.Paths.{pieces}

pub returns-in_default : goal.returns-in_default
returns-in_default c =
    rw (pieces_split c.args.path.now None c.in_default.ensures.cases) (dict_alone c.args.path.now)

pub returns-then-ne : goal.returns-then-ne
returns-then-ne c =
    rw
    (pieces_split c.args.path.now (Some (c.in-Some.first, c.in-Some.below)) c.in-Some.ensures.cases)
    (dict_elsewhere c.in-Some.first.now (pieces c.in-Some.below.now) c.if-ne.ensures)
