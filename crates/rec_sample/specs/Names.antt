-- The names of a generated session's tests, and what they write.
use Rattle.std.specs.Fmt.{decimal}
use Rattle.std.specs.Prelude.{ℕ, ◌%◌, List, [], ◌∷◌, ◌++◌, codes}
use Rattle.rec_events.specs.declared.instances.OwnedTestInstanceId.{OwnedTestInstanceId}

-- the binary k, of four
abbrev pub binary_id : ℕ → List ℕ
binary_id k = codes "bin-" ++ decimal k

-- the test i
abbrev pub test_name : ℕ → List ℕ
test_name i = codes "t" ++ decimal i

abbrev pub test_instance : ℕ → OwnedTestInstanceId
test_instance i = record { binary_id = binary_id (i % 4); test_name = test_name i }

-- what it writes: one of sixteen lines
abbrev pub test_stdout : ℕ → List ℕ
test_stdout i = codes "output " ++ (decimal (i % 16) ++ 10 ∷ [])
