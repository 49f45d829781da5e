-- The events of a generated session of n tests.
use Rattle.std.specs.List.{flat_map, range_with_len}
use Rattle.std.specs.Prelude.{ℕ, List, [], ◌∷◌, ◌++◌, map, if◌then◌else◌}
use Rattle.rec_events.specs.declared.events.CoreEventKind.{CoreEventKind}
use Rattle.rec_events.specs.declared.events.TestEventKindSummary.TheVariants.{Core, Output}
use Rattle.rec_events.specs.Times.{Moment}
use Rattle.rec_codec.specs.Event.{LiveEvent}
use Rattle.rec_sample.specs.Batches.{batch_count, batch_tests, has_pause}
use Rattle.rec_sample.specs.Instants.{run_start, test_start, test_end}
use Rattle.rec_sample.specs.Instants.{pause_start, pause_end, run_end, seconds}
use Rattle.rec_sample.specs.Kinds.{run_started, test_started, run_paused}
use Rattle.rec_sample.specs.Kinds.{run_continued, test_finished, run_finished}

-- ---- one event each

-- an event without outputs; no time is said to have gone by
abbrev pub core_event : Moment → CoreEventKind → LiveEvent
core_event timestamp kind = record { timestamp = timestamp; elapsed = seconds 0; kind = Core kind }

unfoldable pub run_started_event : LiveEvent
run_started_event = core_event run_start run_started

unfoldable pub test_started_event : ℕ → ℕ → LiveEvent
test_started_event n i = core_event (test_start i) (test_started n i)

unfoldable pub run_paused_event : ℕ → ℕ → LiveEvent
run_paused_event n b = core_event (pause_start b) (run_paused n b)

unfoldable pub run_continued_event : ℕ → ℕ → LiveEvent
run_continued_event n b = core_event (pause_end b) (run_continued n b)

unfoldable pub test_finished_event : ℕ → ℕ → LiveEvent
test_finished_event n i =
    record { timestamp = test_end i; elapsed = seconds 0; kind = Output (test_finished n i) }

unfoldable pub run_finished_event : ℕ → LiveEvent
run_finished_event n = core_event (run_end n) (run_finished n)

-- ---- those of a batch, and of the whole run

abbrev pub test_starts : ℕ → ℕ → List LiveEvent
test_starts n b = map (test_started_event n) (batch_tests n b)

abbrev pub pause : ℕ → ℕ → List LiveEvent
pause n b = if has_pause b then run_paused_event n b ∷ run_continued_event n b ∷ [] else []

abbrev pub test_ends : ℕ → ℕ → List LiveEvent
test_ends n b = map (test_finished_event n) (batch_tests n b)

-- its tests start; the run pauses in some batches; its tests finish
unfoldable pub batch_events : ℕ → ℕ → List LiveEvent
batch_events n b = test_starts n b ++ (pause n b ++ test_ends n b)

-- of the first batches
abbrev pub batches_events : ℕ → ℕ → List LiveEvent
batches_events n count = flat_map (batch_events n) (range_with_len 0 count)

abbrev pub sample_events : ℕ → List LiveEvent
sample_events n = run_started_event ∷ batches_events n (batch_count n) ++ run_finished_event n ∷ []
