use Rattle.rec_container.proofs.front.next_entry.Goals as goal
use Rattle.rec_container.proofs.Unique.{fault_stuck}
use Rattle.rec_container.proofs.WholePrefixes.{found_step}
use Rattle.rec_container.specs.Placed.{placed_entries}

pub returns-in-Ok-clause-step : goal.returns-in-Ok-clause-step
returns-in-Ok-clause-step c =
    found_step c.args.at (placed_entries c.args.seen.now)
    c.args.bytes.now c.in-Ok.found c.in-Ok.ensures.step

pub returns-in-Err-clause-step : goal.returns-in-Err-clause-step
returns-in-Err-clause-step c =
    fault_stuck c.args.at (placed_entries c.args.seen.now) c.args.bytes.now _ c.in-Err.ensures.step
