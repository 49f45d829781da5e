-- Which tests of a generated session run together: the first eight, then the next eight, and so on,
-- each on a slot of its own.
use Rattle.std.specs.Int.{div_ceil}
use Rattle.std.specs.List.{range_with_len}
use Rattle.std.specs.Prelude.{ℕ, ◌+◌, ◌-◌, ◌*◌, ◌/◌, ◌%◌, ◌==◌, min, Bool, List}

-- the batch of the test i, and its slot there
abbrev pub batch : ℕ → ℕ
batch i = i / 8

abbrev pub slot : ℕ → ℕ
slot i = i % 8

-- how many batches n tests make, and how many tests the batch b has
abbrev pub batch_count : ℕ → ℕ
batch_count n = div_ceil n 8

abbrev pub batch_size : ℕ → ℕ → ℕ
batch_size n b = min 8 (n - 8 * b)

-- the tests of the batch b
abbrev pub batch_tests : ℕ → ℕ → List ℕ
batch_tests n b = range_with_len (8 * b) (batch_size n b)

-- the run pauses in every tenth batch
abbrev pub has_pause : ℕ → Bool
has_pause b = b % 10 == 9

-- how many tests run once the test i has started, and once it has finished
abbrev pub running_from : ℕ → ℕ
running_from i = slot i + 1

abbrev pub running_after : ℕ → ℕ → ℕ
running_after n i = batch_size n (batch i) - (slot i + 1)
