-- The names of processes and of their rows.
use Rattle.std.specs.Fmt.{decimal}
use Rattle.std.specs.Prelude.{ℕ, List, ◌++◌, Option, None, Some, codes}

-- the process of the run, under this profile
abbrev pub run_process_name : Option (List ℕ) → List ℕ
run_process_name None = codes "nextest run"
run_process_name (Some profile) = codes "nextest run (" ++ (profile ++ codes ")")

-- the row of a slot, in which tests run
abbrev pub slot_name : ℕ → List ℕ
slot_name slot = codes "slot-" ++ decimal slot

-- the row of a setup script
abbrev pub script_name : ℕ → List ℕ
script_name index = codes "script-" ++ decimal index
