use Rattle.std.proofs.Common.{sym}
use Rattle.rec_salvage.proofs.log_lines.split_whole_line.Goals as goal
use Rattle.rec_salvage.proofs.WholeLog.{found, missing}

pub returns-in-Some : goal.returns-in-Some
returns-in-Some c = found c.args.bytes.now c.in-Some.end (sym c.in-Some.ensures)

pub returns-in-None : goal.returns-in-None
returns-in-None c = missing c.args.bytes.now (sym c.in-None.ensures)
