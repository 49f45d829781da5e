use Rattle.std.proofs.Common.{◌≡◌, drop, map}
use Rattle.rec_store.specs.OutputPaths.{output_path}
use Rattle.rec_reading.proofs.outputs.find_named.Given as goal
use Rattle.rec_reading.specs.Outputs.{all_found}

-- the rest decides
abbrev pub invariant-loop-name : goal.invariant-loop-name
invariant-loop-name l =
    all_found l.store.entries (map output_path l.names)
    ≡ all_found l.store.entries (map output_path (drop l.name-index l.names))
