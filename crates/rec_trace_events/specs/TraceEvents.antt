-- The events of a trace.
use Rattle.std.specs.Prelude.{ℕ, ℤ, pos, List, [], ◌∷◌, ◌++◌, Option, None, Some, codes}
use Rattle.serde_json.specs.Data.{Data, string}
use Rattle.rec_events.specs.declared.reporting.CancelReason.{CancelReason}
use Rattle.rec_events.specs.declared.stats.RunStats.{RunStats}
use Rattle.rec_events.specs.Stats.{failures}
use Rattle.rec_forms.specs.Reporting.{cancel_reason_value}
use Rattle.rec_forms.specs.Shape.{Field, field, integer, natural, optional, struct}
use Rattle.rec_trace_events.specs.Args.{given}
use Rattle.rec_trace_events.specs.declared.counts.RunningCounts.{RunningCounts}
use Rattle.rec_trace_events.specs.declared.counts.TestCounts.{TestCounts}
use Rattle.rec_trace_events.specs.declared.instants.RunMark.TheVariants.{
  Cancelled,
  Paused,
  Continued,
}
use Rattle.rec_trace_events.specs.declared.instants.RunMark.{RunMark}
use Rattle.rec_trace_events.specs.declared.rows.Category.TheVariants.{Run, Stress}
use Rattle.rec_trace_events.specs.declared.rows.Category.TheVariants.{SetupScript, Test}
use Rattle.rec_trace_events.specs.declared.rows.Category.{Category}
use Rattle.rec_trace_events.specs.declared.rows.Row.{Row}

abbrev pub category_text : Category → List ℕ
category_text Run = codes "run"
category_text Stress = codes "stress"
category_text SetupScript = codes "setup-script"
category_text Test = codes "test"

-- the first row of a process, and that of the run
abbrev pub process_row : ℕ → Row
process_row pid = record { pid = pid; tid = 0 }

abbrev pub run_row : Row
run_row = record { pid = 0; tid = 1 }

-- what each event has, at an instant in microseconds
abbrev pub event_fields : List ℕ → List ℕ → List ℕ → Row → ℤ → List Field
event_fields phase name category row at =
    field (codes "cat") (string category)
    ∷ field (codes "name") (string name)
    ∷ field (codes "ph") (string phase)
    ∷ field (codes "pid") (natural row.pid)
    ∷ field (codes "tid") (natural row.tid)
    ∷ field (codes "ts") (integer at)
    ∷ []

-- ---- slices

-- args are left out where there are none
abbrev pub slice_event : List ℕ → List ℕ → Category → Row → ℤ → Option Data → Data
slice_event phase name category row at args =
    struct
    (event_fields phase name (category_text category) row at ++ given (codes "args") args ∷ [])

unfoldable pub begin_event : List ℕ → Category → Row → ℤ → Option Data → Data
begin_event name category row at args = slice_event (codes "B") name category row at args

unfoldable pub end_event : List ℕ → Category → Row → ℤ → Option Data → Data
end_event name category row at args = slice_event (codes "E") name category row at args

-- ---- metadata

abbrev pub metadata_event : List ℕ → Row → Data → Data
metadata_event name row args =
    struct (event_fields (codes "M") name [] row (pos 0) ++ field (codes "args") args ∷ [])

abbrev pub name_args : List ℕ → Data
name_args name = struct (field (codes "name") (string name) ∷ [])

abbrev pub name_event : List ℕ → Row → List ℕ → Data
name_event event row name = metadata_event event row (name_args name)

-- the place of something among others
abbrev pub place_args : ℕ → Data
place_args place = struct (field (codes "sort_index") (natural place) ∷ [])

abbrev pub place_event : List ℕ → Row → ℕ → Data
place_event event row place = metadata_event event row (place_args place)

-- the name of a process, and its place, which is that of its number
abbrev pub process_metadata : ℕ → List ℕ → List Data
process_metadata pid name =
    name_event (codes "process_name") (process_row pid) name
    ∷ place_event (codes "process_sort_index") (process_row pid) pid ∷ []

-- the name of a row, and its place among the others of its process
abbrev pub thread_metadata : Row → List ℕ → List Data
thread_metadata row name =
    name_event (codes "thread_name") row name ∷ place_event (codes "thread_sort_index") row row.tid
    ∷ []

-- ---- counters

abbrev pub counter_event : List ℕ → ℤ → Data → Data
counter_event name at counts =
    struct (event_fields (codes "C") name (category_text Run) (process_row 0) at
    ++ field (codes "args") counts ∷ [])

-- how many tests and setup scripts run
abbrev pub running_args : RunningCounts → Data
running_args running =
    struct (field (codes "running_tests") (natural running.tests)
    ∷ field (codes "running_scripts") (natural running.scripts) ∷ [])

unfoldable pub concurrency_event : RunningCounts → ℤ → Data
concurrency_event running at = counter_event (codes "concurrency") at (running_args running)

-- the tests that failed are those of any cause
abbrev pub test_counts : RunStats → TestCounts
test_counts s = record { passed = s.passed; flaky = s.flaky; failed = failures s }

abbrev pub results_args : TestCounts → Data
results_args counts =
    struct
    (field (codes "passed") (natural counts.passed) ∷ field (codes "flaky") (natural counts.flaky)
    ∷ field (codes "failed") (natural counts.failed) ∷ [])

unfoldable pub results_event : TestCounts → ℤ → Data
results_event counts at = counter_event (codes "test results") at (results_args counts)

-- ---- instants

unfoldable pub mark_name : RunMark → List ℕ
mark_name (Cancelled reason) = codes "cancel"
mark_name Paused = codes "paused"
mark_name Continued = codes "continued"

abbrev pub mark_reason : RunMark → Option CancelReason
mark_reason (Cancelled reason) = Some reason
mark_reason Paused = None
mark_reason Continued = None

unfoldable pub mark_args : RunMark → RunningCounts → Data
mark_args mark running = struct (
    field (codes "running") (natural running.tests)
    ∷ field (codes "setup_scripts_running") (natural running.scripts)
    ∷ optional (codes "reason") cancel_reason_value (mark_reason mark)
    ∷ [])

-- an instant, which viewers show as wide as its scope says
abbrev pub instant_event : List ℕ → Category → Row → ℤ → List ℕ → Data → Data
instant_event name category row at scope args = struct (
    event_fields (codes "i") name (category_text category) row at
    ++ field (codes "s") (string scope)
    ∷ field (codes "args") args
    ∷ [])

-- a mark over the whole process
unfoldable pub mark_event : RunMark → RunningCounts → ℤ → Data
mark_event mark running at =
    instant_event (mark_name mark) Run run_row at (codes "p") (mark_args mark running)

-- on one row
unfoldable pub slow_event : Category → Row → ℤ → Data → Data
slow_event category row at args = instant_event (codes "slow") category row at (codes "t") args

-- ---- arrows, from a failed attempt to the next one

abbrev pub arrow_fields : List ℕ → Row → ℤ → ℕ → List Field
arrow_fields phase row at id =
    event_fields phase (codes "retry") (category_text Test) row at
    ++ field (codes "id") (natural id) ∷ []

unfoldable pub arrow_start : Row → ℤ → ℕ → Data
arrow_start row at id = struct (arrow_fields (codes "s") row at id)

-- it ends at the slice that begins there
unfoldable pub arrow_finish : Row → ℤ → ℕ → Data
arrow_finish row at id =
    struct (arrow_fields (codes "f") row at id ++ field (codes "bp") (string (codes "e")) ∷ [])
