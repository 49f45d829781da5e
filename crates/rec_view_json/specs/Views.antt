-- The JSON of a view.
use Rattle.std.specs.Option.{unwrap_or}
use Rattle.std.specs.Prelude.{◌-◌, ◌^◌, ℕ, ℤ, nat_lt, Bool, List, [], ◌∷◌, codes, filter_map}
use Rattle.std.specs.Prelude.{length, map, Option, Some, None, option_and_then, option_map}
use Rattle.std.specs.Prelude.{if◌then◌else◌}
use Rattle.serde_json.specs.Data.{Data, array, string}
use Rattle.serde_json.specs.View.{items_of}
use Rattle.rec_events.specs.declared.events.TestEventKindSummary.{TestEventKindSummary}
use Rattle.rec_events.specs.declared.outputs.RecordingSpec.{RecordingSpec}
use Rattle.rec_events.specs.declared.outputs.ZipStoreOutputDescription.{ZipStoreOutputDescription}
use Rattle.rec_forms.specs.Instances.{retry_data_value, stress_index_value}
use Rattle.rec_forms.specs.Lists.{list_value}
use Rattle.rec_forms.specs.Outputs.{stored_outputs_value}
use Rattle.rec_forms.specs.Shape.{field, integer, natural, optional, struct}
use Rattle.rec_forms.specs.Skipping.{mismatch_reason_value}
use Rattle.rec_forms.specs.Times.{stamp_value}
use Rattle.rec_codec.specs.Event.{RecordedEvent}
use Rattle.rec_codec.specs.EventForms.{event_value}
use Rattle.rec_codec.specs.ScriptStatus.{script_status_value}
use Rattle.rec_codec.specs.Status.{status_value}
use Rattle.rec_spans.specs.declared.settings.ChromeTraceGroupBy.TheVariants as group
use Rattle.rec_spans.specs.Kinds.{history}
use Rattle.rec_spans.specs.Past.{TraceInput}
use Rattle.rec_spans.specs.Plain.{plain}
use Rattle.rec_view.specs.Acts.{acts}
use Rattle.rec_view.specs.Counts.{count}
use Rattle.rec_view.specs.declared.scripts.ScriptView.{ScriptView}
use Rattle.rec_view.specs.declared.test_views.Attempt.{Attempt}
use Rattle.rec_view.specs.declared.verdicts.Verdict.TheVariants.{Passed, Flaky, Failed, Skipped}
use Rattle.rec_view.specs.declared.verdicts.Verdict.TheVariants.{Unfinished, NotStarted}
use Rattle.rec_view.specs.declared.verdicts.Verdict.{Verdict}
use Rattle.rec_view.specs.Instants.{are_in_range, i64_of, instants}
use Rattle.rec_view.specs.Rows.{Row, rows_of}
use Rattle.rec_view.specs.Scripts.{script_acts, scripts}
use Rattle.rec_view.specs.Slices.{active, all_slices, pauses}
use Rattle.rec_view.specs.Tests.{verdicts}
use Rattle.rec_view.specs.Unnamed.{unnamed}
use Rattle.rec_view_json.specs.Told.{cancels, finishes_run, index_told, instant_at, is_slow}
use Rattle.rec_view_json.specs.Told.{moment_at, reason_told, retry_told, script_status_told}
use Rattle.rec_view_json.specs.Told.{script_told, slot_told, starts_run, starts_script}
use Rattle.rec_view_json.specs.Told.{status_told, stress_told, told_at}

-- the values of the items that have one
abbrev pub some_values : {T : Type 0} → (T → Option Data) → List T → Data
some_values value xs = array (items_of (filter_map value xs))

-- ---- slices and attempts

-- what is told of events doesn't depend on how a trace groups tests
abbrev pub history_of : List RecordedEvent → List TraceInput
history_of events = history group.Slot (map plain events)

-- the instants at which a slice begins and ends
abbrev pub slice_value : List RecordedEvent → ℕ × ℕ → Data
slice_value events s =
    some_values (λ i. option_map stamp_value (moment_at events i)) (s.0 ∷ s.1 ∷ [])

-- the slices of what lasts from one event to another, or past the last one
abbrev pub slices_value : List RecordedEvent → ℕ → Option ℕ → Data
slices_value events from to =
    list_value (slice_value events)
    (all_slices (history_of events) from (unwrap_or to (length events)))

-- for how long it is active, in microseconds, where a trace takes the instants of all events
abbrev pub active_told : List RecordedEvent → ℕ → Option ℕ → Option ℤ
active_told events from to =
    if are_in_range (instants (history_of events))
    then i64_of (active (history_of events) from (unwrap_or to (length events)))
    else None

unfoldable pub attempt_value : List RecordedEvent → Attempt → Data
attempt_value events a =
    struct
    (optional (codes "active") integer (active_told events a.from a.to)
    ∷ optional (codes "ended") stamp_value (option_and_then (instant_at events) a.to)
    ∷ optional (codes "retry-data") retry_data_value (told_at retry_told events a.from)
    ∷ field (codes "slices") (slices_value events a.from a.to)
    ∷ optional (codes "slot") natural (told_at slot_told events a.from)
    ∷ optional (codes "started") stamp_value (instant_at events a.from)
    ∷ optional (codes "status") (status_value stored_outputs_value)
    (option_and_then (told_at status_told events) a.to)
    ∷ [])

-- ---- setup scripts

unfoldable pub script_value : List RecordedEvent → ScriptView → Data
script_value events s =
    struct
    (optional (codes "active") integer (active_told events s.from s.to)
    ∷ optional (codes "ended") stamp_value (option_and_then (instant_at events) s.to)
    ∷ optional (codes "index") natural (told_at index_told events s.from)
    ∷ optional (codes "script-id") string (told_at script_told events s.from)
    ∷ field (codes "slices") (slices_value events s.from s.to)
    ∷ optional (codes "started") stamp_value (instant_at events s.from)
    ∷ optional (codes "status") (script_status_value stored_outputs_value)
    (option_and_then (told_at script_status_told events) s.to)
    ∷ optional (codes "stress-index") stress_index_value (told_at stress_told events s.from) ∷ [])

-- ---- tests

abbrev pub verdict_name : Verdict → List ℕ
verdict_name Passed = codes "passed"
verdict_name Flaky = codes "flaky"
verdict_name Failed = codes "failed"
verdict_name Skipped = codes "skipped"
verdict_name Unfinished = codes "unfinished"
verdict_name NotStarted = codes "not-started"

-- with what the event tells that opens the test
unfoldable pub test_value : List RecordedEvent → Row → Data
test_value events r =
    struct
    (field (codes "attempts") (list_value (attempt_value events) r.attempts)
    ∷ field (codes "binary-id") (string r.place.test.binary_id)
    ∷ optional (codes "reason") mismatch_reason_value (told_at reason_told events r.place.at)
    ∷ optional (codes "stress-index") stress_index_value (told_at stress_told events r.place.at)
    ∷ field (codes "test-name") (string r.place.test.test_name)
    ∷ field (codes "verdict") (string (verdict_name r.verdict)) ∷ [])

-- ---- the run

-- a number, or the largest one that is written
abbrev pub at_most : ℕ → ℕ
at_most n = if nat_lt n (2 ^ 64) then n else 2 ^ 64 - 1

-- how many tests have each verdict, and how many are counted without their names
unfoldable pub counts_value : List Verdict → ℕ → Data
counts_value vs unnamed =
    struct
    (field (codes "failed") (natural (count Failed vs))
    ∷ field (codes "flaky") (natural (count Flaky vs))
    ∷ field (codes "not-started") (natural (count NotStarted vs))
    ∷ field (codes "passed") (natural (count Passed vs))
    ∷ field (codes "skipped") (natural (count Skipped vs))
    ∷ field (codes "unfinished") (natural (count Unfinished vs))
    ∷ field (codes "unnamed") (natural (at_most unnamed)) ∷ [])

-- an event as the log has it, where it passes
abbrev pub event_if : (TestEventKindSummary RecordingSpec ZipStoreOutputDescription → Bool)
    → RecordedEvent → Option Data
event_if passes e = if passes e.kind then Some (event_value stored_outputs_value e) else None

-- a view of a run, of which this is said beside its events
unfoldable pub view_value : Data → List RecordedEvent → Data
view_value run events =
    struct
    (optional (codes "begin") stamp_value (instant_at events 0)
    ∷ field (codes "cancelled") (some_values (event_if cancels) events)
    ∷ field (codes "counts") (counts_value (verdicts (acts events)) (unnamed events))
    ∷ optional (codes "end") stamp_value (instant_at events (length events - 1))
    ∷ field (codes "pauses") (list_value (slice_value events) (pauses (history_of events)))
    ∷ field (codes "run") run
    ∷ field (codes "run-finished") (some_values (event_if finishes_run) events)
    ∷ field (codes "run-started") (some_values (event_if starts_run) events)
    ∷ field (codes "scripts") (list_value (script_value events) (scripts (script_acts events)))
    ∷ field (codes "setup-script-started") (some_values (event_if starts_script) events)
    ∷ field (codes "slow") (some_values (event_if is_slow) events)
    ∷ field (codes "tests") (list_value (test_value events) (rows_of (acts events))) ∷ [])
