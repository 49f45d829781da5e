use Rattle.std.proofs.Common.{◌≡◌, ◌++◌, drop, map, string_bytes}
use Rattle.rec_store.specs.OutputPaths.{output_path}
use Rattle.rec_salvage.proofs.log_lines.paths_of.Given as goal

-- what is left completes the paths
abbrev pub invariant-loop-name : goal.invariant-loop-name
invariant-loop-name l =
    map string_bytes l.paths.items ++ map output_path (drop l.name-index l.names)
    ≡ map output_path l.names
