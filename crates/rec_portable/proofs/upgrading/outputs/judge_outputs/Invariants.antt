use Rattle.std.proofs.Common.{◌≡◌, ◌||◌, ℕ, List, drop, map}
use Rattle.std.specs.BTreeSet.{contains_text}
use Rattle.std.specs.List.{list_any}
use Rattle.std.specs.Str.{bytes_eq}
use Rattle.rec_store.specs.JudgedParts.{outputs_judged}
use Rattle.rec_store.specs.OutputPaths.{output_path}
use Rattle.rec_portable.proofs.upgrading.outputs.judge_outputs.Given as goal

-- the rest decides, and completes the set
abbrev pub invariant-loop-name : goal.invariant-loop-name
invariant-loop-name l = record {
  judged : outputs_judged l.limit l.entries.entries (map output_path l.names)
      ≡ outputs_judged l.limit l.entries.entries (map output_path (drop l.name-index l.names));
  paths : (path : List ℕ)
      → (contains_text l.paths path
      || list_any (λ p. bytes_eq path p) (map output_path (drop l.name-index l.names)))
      ≡ list_any (λ p. bytes_eq path p) (map output_path l.names);
}
