use Rattle.std.proofs.Common.{◌≡◌, ◌++◌, drop, map}
use Rattle.std.specs.List.{flat_map}
use Rattle.rec_events.specs.EventMaps.{of_status}
use Rattle.rec_store.proofs.output_names.add_attempts.Given as goal
use Rattle.rec_store.specs.Kept.{description_paths}
use Rattle.rec_store.specs.OutputPaths.{output_path}

-- what is left completes the names
abbrev pub invariant-loop-attempt : goal.invariant-loop-attempt
invariant-loop-attempt l =
    map output_path l.names.items
    ++ flat_map (of_status description_paths) (drop l.attempt-index l.attempts)
    ≡ map output_path l.fn.names.items ++ flat_map (of_status description_paths) l.attempts
