use Rattle.rec_junit.proofs.additions.script_addition.Goals as goal
use Rattle.rec_junit.proofs.Judged.{parts_added, parts_refused}

pub returns-in-Ok : goal.returns-in-Ok
returns-in-Ok g c = parts_added c.args.key _ _ c.in-Ok.parts c.in-Ok.ensures

pub returns-in-Err : goal.returns-in-Err
returns-in-Err g c = parts_refused c.args.key _ _ c.in-Err.error c.in-Err.ensures
