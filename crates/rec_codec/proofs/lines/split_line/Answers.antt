use Rattle.std.proofs.Common.{sym}
use Rattle.rec_codec.proofs.LineLemmas.{lines_found, lines_missing}
use Rattle.rec_codec.proofs.lines.split_line.Goals as goal

pub returns-in-Some-clause-lines : goal.returns-in-Some-clause-lines
returns-in-Some-clause-lines c = lines_found c.args.bytes.now c.in-Some.end (sym c.in-Some.ensures)

pub returns-in-None-clause-lines : goal.returns-in-None-clause-lines
returns-in-None-clause-lines c = lines_missing c.args.bytes.now (sym c.in-None.ensures) c.requires
