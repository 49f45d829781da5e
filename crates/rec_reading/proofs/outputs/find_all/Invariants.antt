use Rattle.std.proofs.Common.{◌≡◌, drop}
use Rattle.rec_reading.proofs.outputs.find_all.Given as goal
use Rattle.rec_reading.specs.Outputs.{all_found, named_paths}

-- the rest decides
abbrev pub invariant-loop-event : goal.invariant-loop-event
invariant-loop-event l =
    all_found l.store.entries (named_paths l.events)
    ≡ all_found l.store.entries (named_paths (drop l.event-index l.events))
