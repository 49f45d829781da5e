-- Which run lists are written back.
use Rattle.std.specs.Prelude.{ℕ, if◌then◌else◌, nat_lt}
use Rattle.rec_format.specs.declared.run_list.RunsJsonWritePermission.TheVariants.{Allowed, Denied}
use Rattle.rec_format.specs.declared.run_list.RunsJsonWritePermission.{RunsJsonWritePermission}

-- the version of the run lists that are written
abbrev pub run_list_version : ℕ
run_list_version = 3

-- whether a list of this version is written back
abbrev pub permission : ℕ → RunsJsonWritePermission
permission version =
    if nat_lt run_list_version version then Denied version run_list_version else Allowed
