-- Why a history has no trace.
use Rattle.std.specs.Option.{option_or}
use Rattle.std.specs.Prelude.{◌≡◌, ℕ, suc, ◌^◌, ℤ, List, [], ◌∷◌, filter, bytes_eq, nat_lt, Bool}
use Rattle.std.specs.Prelude.{true, false, Option, Some, None, Result, Ok, Err, if◌then◌else◌, ◌⊎◌}
use Rattle.rec_events.specs.declared.instances.OwnedTestInstanceId.{OwnedTestInstanceId}
use Rattle.rec_forms.specs.Shape.{fits}
use Rattle.rec_spans.specs.Acts.Act.{SubRunEnds, ScriptStarts, ScriptEnds}
use Rattle.rec_spans.specs.Acts.Act.{ScriptIsSlow, AttemptFails, TestEnds, TestIsSlow}
use Rattle.rec_spans.specs.Acts.{Act}
use Rattle.rec_spans.specs.declared.errors.ChromeTraceError.TheVariants.{
  CountOutOfRange,
  MissingScriptStart,
  MissingStressSubRunStart,
  MissingTestStart,
  OutOfMemory,
  RowOutOfRange,
  SlotBusy,
  SpanAlreadyOpen,
  TimestampOutOfRange,
}
use Rattle.rec_spans.specs.declared.errors.ChromeTraceError.{ChromeTraceError}
use Rattle.rec_spans.specs.declared.settings.ChromeTraceGroupBy.{ChromeTraceGroupBy}
use Rattle.rec_spans.specs.declared.spans.Place.TheVariants as places
use Rattle.rec_spans.specs.declared.spans.Place.{Place}
use Rattle.rec_spans.specs.declared.spans.Span.{Span}
use Rattle.rec_spans.specs.declared.spans.SpanKey.TheVariants as keys
use Rattle.rec_spans.specs.declared.spans.SpanKey.{SpanKey}
use Rattle.rec_spans.specs.History.{TraceState, state_after}
use Rattle.rec_spans.specs.Kinds.{history}
use Rattle.rec_spans.specs.Past.Change.{Start, Stop, Pause, Resume, Other}
use Rattle.rec_spans.specs.Past.{Change, TraceInput, in_place, of_key}
use Rattle.rec_spans.specs.Places.{number}
use Rattle.rec_spans.specs.Plain.{PlainEvent}

abbrev pub is_none_open : List Span → Bool
is_none_open [] = true
is_none_open (s ∷ spans) = false

abbrev pub is_script : SpanKey → Bool
is_script (keys.Script index) = true
is_script _ = false

-- the setup scripts among these spans, and the spans of this name,
-- which for a setup script is its id
abbrev pub scripts_in : List Span → List Span
scripts_in spans = filter (λ s. is_script s.key) spans

abbrev pub under : List ℕ → List Span → List Span
under name spans = filter (λ s. bytes_eq s.name name) spans

-- ---- the causes, in their order; n is the number of the event, and `spans` are open before it

-- it has a number past u64
abbrev pub number_refusal : ℕ → Option ChromeTraceError
number_refusal n = if nat_lt n (2 ^ 64) then None else Some (CountOutOfRange 18446744073709551615)

-- its instant is no i64
abbrev pub instant_refusal : ℕ → ℤ → Option ChromeTraceError
instant_refusal n t = if fits (2 ^ 63) t then None else Some (TimestampOutOfRange n)

-- it needs an open attempt of a test
abbrev pub attempt_missing : ℕ → List Span → OwnedTestInstanceId → Option ChromeTraceError
attempt_missing n spans test =
    if is_none_open (of_key (keys.Test test) spans)
    then Some (MissingTestStart n test.binary_id test.test_name)
    else None

-- it needs one of these setup scripts, of this id
abbrev pub script_missing : ℕ → List Span → List ℕ → Option ChromeTraceError
script_missing n scripts id =
    if is_none_open (under id scripts) then Some (MissingScriptStart n id) else None

-- it ends what isn't open, or is slow without having started; a run may end that isn't open
abbrev pub missing_refusal : ℕ → List Span → Act → Option ChromeTraceError
missing_refusal n spans (AttemptFails test) = attempt_missing n spans test
missing_refusal n spans (TestEnds test failures) = attempt_missing n spans test
missing_refusal n spans (TestIsSlow test) = attempt_missing n spans test
missing_refusal n spans (ScriptEnds index id) =
    script_missing n (of_key (keys.Script index) spans) id
missing_refusal n spans (ScriptIsSlow id) = script_missing n (scripts_in spans) id
missing_refusal n spans SubRunEnds =
    if is_none_open (of_key keys.SubRun spans) then Some (MissingStressSubRunStart n) else None
missing_refusal n spans _ = None

-- it starts what is open
abbrev pub open_refusal : ℕ → List Span → Change → Option ChromeTraceError
open_refusal n spans (Start s) =
    if is_none_open (of_key s.key spans) then None else Some (SpanAlreadyOpen n s.key)
open_refusal n spans (Stop k) = None
open_refusal n spans Pause = None
open_refusal n spans Resume = None
open_refusal n spans Other = None

-- it starts a test on a slot that is held
abbrev pub busy : ℕ → Place → Option ChromeTraceError
busy n places.Run = None
busy n places.SubRun = None
busy n (places.Slot slot) = Some (SlotBusy n slot)
busy n (places.Script index) = None

abbrev pub slot_refusal : ℕ → List Span → Change → Option ChromeTraceError
slot_refusal n spans (Start s) =
    if is_none_open (in_place s.place spans) then None else busy n s.place
slot_refusal n spans (Stop k) = None
slot_refusal n spans Pause = None
slot_refusal n spans Resume = None
slot_refusal n spans Other = None

-- the row of what it starts has a number past u64: that made of its slot or its index,
-- or that of its process
abbrev pub row_refusal : ℕ → Change → Option ChromeTraceError
row_refusal n (Start s) =
    option_or (if nat_lt s.row.tid (2 ^ 64) then None else Some (RowOutOfRange n (number s.place)))
    (if nat_lt s.row.pid (2 ^ 64) then None else Some (RowOutOfRange n 18446744073709551615))
row_refusal n (Stop k) = None
row_refusal n Pause = None
row_refusal n Resume = None
row_refusal n Other = None

-- it issues a flow number past u64
abbrev pub flow_refusal : ℕ → Act → ℕ → Option ChromeTraceError
flow_refusal n (AttemptFails test) next =
    if nat_lt next (2 ^ 64) then None else Some (RowOutOfRange n 18446744073709551615)
flow_refusal n _ next = None

-- with it more setup scripts run than a usize counts
abbrev pub scripts_refusal : ℕ → Act → ℕ → Option ChromeTraceError
scripts_refusal n (ScriptStarts index id) before =
    if nat_lt (suc before) (2 ^ 64) then None else Some (CountOutOfRange n)
scripts_refusal n _ before = None

-- it counts more failed tests than a usize holds
abbrev pub failures_refusal : ℕ → Act → Option ChromeTraceError
failures_refusal n (TestEnds test failures) =
    if nat_lt failures (2 ^ 64) then None else Some (CountOutOfRange n)
failures_refusal n _ = None

-- ---- the first cause

-- the first cause of an event but for its number and its instant
abbrev pub act_refusal : ℕ → TraceState → Act → Change → Option ChromeTraceError
act_refusal n state act change =
    option_or (missing_refusal n state.spans act)
    (option_or (open_refusal n state.spans change)
    (option_or (slot_refusal n state.spans change)
    (option_or (row_refusal n change)
    (option_or (flow_refusal n act state.next_flow)
    (option_or (scripts_refusal n act state.scripts)
    (failures_refusal n act))))))

-- the first cause of the next event after a state, if it has one
abbrev pub next_refusal : TraceState → TraceInput → Option ChromeTraceError
next_refusal state input =
    option_or (number_refusal (suc state.number))
    (option_or (instant_refusal (suc state.number) input.at)
    (act_refusal (suc state.number) state input.act input.change))

-- the cause of the first event after a past that has one
abbrev pub history_refusal_after : List TraceInput → List TraceInput → Option ChromeTraceError
history_refusal_after past [] = None
history_refusal_after past (input ∷ history) =
    option_or (next_refusal (state_after past) input) (history_refusal_after (input ∷ past) history)

-- why a history has no trace, if it has none
abbrev pub history_refusal : List TraceInput → Option ChromeTraceError
history_refusal history = history_refusal_after [] history

-- why events have no trace, if they have none
abbrev pub events_refusal : ChromeTraceGroupBy → List PlainEvent → Option ChromeTraceError
events_refusal g events = history_refusal (history g events)

-- a refusal is answered, exactly where there is one; or memory runs out
abbrev pub Judges : {T : Type 0} → Result T ChromeTraceError → Option ChromeTraceError → Type 0
Judges (Ok x) refusal = refusal ≡ None
Judges (Err e) refusal = (e ≡ OutOfMemory) ⊎ (refusal ≡ Some e)
