-- Paths on a disk.
use Rattle.std.specs.List.{ends_with}
use Rattle.std.specs.Prelude.{ℕ, nat_eq, ◌==◌, Bool, ◌||◌, List}
use Rattle.std.specs.Prelude.{[], ◌∷◌, ◌++◌, length, if◌then◌else◌}
use Rattle.rec_store.specs.Entries.{log_name, store_name}

-- a name goes right after a directory's path
abbrev pub ends_open : List ℕ → Bool
ends_open dir = length dir == 0 || ends_with nat_eq dir (47 ∷ [])

-- the path of a name in a directory
abbrev pub joined : List ℕ → List ℕ → List ℕ
joined dir name = if ends_open dir then dir ++ name else (dir ++ 47 ∷ []) ++ name

-- the store and the log of a run's directory
abbrev pub path_of_store : List ℕ → List ℕ
path_of_store dir = joined dir store_name

abbrev pub path_of_log : List ℕ → List ℕ
path_of_log dir = joined dir log_name
