use Rattle.std.proofs.Common.{◌≡◌, ◌||◌, ℕ, List, map, string_bytes}
use Rattle.std.specs.BTreeSet.{contains_text}
use Rattle.std.specs.Vec.Iter.{into_iter_items}
use Rattle.rec_salvage.proofs.gathering.add_paths.Given as goal
use Rattle.rec_salvage.specs.Gathering.{is_among}

-- the set and what is left have what the set had, and the paths
abbrev pub invariant-loop-path : goal.invariant-loop-path
invariant-loop-path l = (path : List ℕ) → (contains_text l.set path
    || is_among (map string_bytes (into_iter_items l.path-iterator)) path)
    ≡ (contains_text l.fn.set path || is_among (map string_bytes l.fn.paths.items) path)
