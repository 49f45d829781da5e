-- The names of a run and of its bundle.
use Rattle.std.specs.Prelude.{ℕ, List, ◌++◌, codes}
use Rattle.rec_format.specs.RunIds.{id_text}
use Rattle.rec_directory.specs.Paths.{joined}

-- the name of a run's bundle
abbrev pub bundle_name : List ℕ → List ℕ
bundle_name run_id = (codes "nextest-run-" ++ id_text run_id) ++ codes ".zip"

-- the directory of a run
abbrev pub run_path : List ℕ → List ℕ → List ℕ
run_path runs_dir run_id = joined runs_dir (id_text run_id)

-- the path under which a file is written until it is whole
abbrev pub temporary_path : List ℕ → List ℕ
temporary_path path = path ++ codes ".tmp"
