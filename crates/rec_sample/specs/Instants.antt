-- When what happens in a generated session. A batch takes four seconds.
use Rattle.std.specs.Prelude.{ℕ, ◌+◌, ◌*◌, pos}
use Rattle.rec_events.specs.Times.{Span, Moment}
use Rattle.rec_sample.specs.Batches.{batch, slot, batch_count}

-- so many seconds and nanoseconds since the Unix epoch
abbrev pub instant : ℕ → ℕ → Moment
instant secs nanos = record { secs = pos secs; nanos = nanos; offset = pos 0 }

abbrev pub run_start : Moment
run_start = instant 1000 0

-- the test i starts, and finishes three seconds later
abbrev pub test_start : ℕ → Moment
test_start i = instant (1000 + 4 * batch i) (1000 * slot i)

abbrev pub test_end : ℕ → Moment
test_end i = instant (1003 + 4 * batch i) (1000 * slot i)

-- the run pauses in the batch b for a second
abbrev pub pause_start : ℕ → Moment
pause_start b = instant (1001 + 4 * b) 0

abbrev pub pause_end : ℕ → Moment
pause_end b = instant (1002 + 4 * b) 0

abbrev pub run_end : ℕ → Moment
run_end n = instant (1000 + 4 * batch_count n) 0

abbrev pub seconds : ℕ → Span
seconds n = record { secs = n; nanos = 0 }
