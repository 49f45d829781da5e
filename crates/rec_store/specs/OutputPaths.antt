-- The paths of outputs in a store.
use Rattle.std.specs.Prelude.{ℕ, List, ◌++◌, codes}
use Rattle.rec_events.specs.declared.output_names.OutputFileName.{OutputFileName}
use Rattle.rec_events.specs.OutputNames.{file_name_text}

-- where the output of this name is stored
unfoldable pub output_path : OutputFileName → List ℕ
output_path name = codes "out/" ++ file_name_text name
