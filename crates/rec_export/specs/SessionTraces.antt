-- The trace of a session's events.
use Rattle.std.specs.declared.alloc.Global.{Global}
use Rattle.std.specs.Prelude.{◌≡◌, ◌⊎◌, List, ℕ, map, Option, None}
use Rattle.std.specs.Prelude.{Some, option_map, Result, Ok, Err, Vec}
use Rattle.semver.specs.Parse.{Parts}
use Rattle.rec_format.specs.declared.head.SessionHead.{SessionHead}
use Rattle.rec_codec.specs.Event.{LiveEvent}
use Rattle.rec_spans.specs.declared.errors.ChromeTraceError.{ChromeTraceError}
use Rattle.rec_spans.specs.declared.settings.ChromeTraceGroupBy.{ChromeTraceGroupBy}
use Rattle.rec_spans.specs.Plain.{PlainEvent, plain}
use Rattle.rec_spans.specs.Refusals.{events_refusal}
use Rattle.rec_trace.specs.declared.printed_trace.PrintedTrace.{PrintedTrace}
use Rattle.rec_trace.specs.declared.settings.ChromeTraceMessageFormat.{ChromeTraceMessageFormat}
use Rattle.rec_trace.specs.PrintedTimeline.{PrintsTimeline}
use Rattle.rec_trace.specs.Traces.{HasTraced, trace_text}
use Rattle.rec_errors.specs.declared.export_error.RecordExportError.TheVariants.{OutOfMemory}
use Rattle.rec_errors.specs.declared.export_error.RecordExportError.{RecordExportError}
use Rattle.rec_errors.specs.TraceFaults.{trace_fault}
use Rattle.rec_export.specs.declared.settings.Settings.{Settings}
use Rattle.rec_export.specs.declared.trace.SessionTrace.{SessionTrace}

-- why events have no trace, if they have none
abbrev pub trace_refusal : Settings → List LiveEvent → Option RecordExportError
trace_refusal settings events =
    option_map trace_fault (events_refusal settings.group_by (map plain events))

-- the text of the trace of a run with this head and these events
unfoldable pub run_trace : Settings → SessionHead → List LiveEvent → List ℕ
run_trace settings head events =
    trace_text settings.message_format settings.group_by head.nextest_version (map plain events)

-- these events are traced, or they are refused
abbrev pub IsTracedOr : ChromeTraceMessageFormat → ChromeTraceGroupBy → Parts → List PlainEvent
    → PrintedTrace → Option ChromeTraceError → Type 0
IsTracedOr format g version events trace None = HasTraced format g version events trace
IsTracedOr format g version events trace (Some refusal) = events_refusal g events ≡ Some refusal

-- this is the trace of these events, of runs by this version of the runner,
-- or it holds why there is none
abbrev pub IsTraceOf : ChromeTraceMessageFormat → ChromeTraceGroupBy → Parts → List PlainEvent
    → SessionTrace → Type 0
IsTraceOf format g version events t = IsTracedOr format g version events t.trace t.refusal

-- the text of the trace of these events is answered, in which a viewer reads their timeline; or why
-- there is none, or memory ran out
abbrev pub AnswersTrace : Parts → ChromeTraceGroupBy → List PlainEvent → List ℕ
    → Result (Vec ℕ Global) RecordExportError → Type 0
AnswersTrace version g events text (Ok t) =
    (events_refusal g events ≡ None) × (t.items ≡ text) × PrintsTimeline version g events t.items
AnswersTrace version g events text (Err e) =
    (e ≡ OutOfMemory) ⊎ (option_map trace_fault (events_refusal g events) ≡ Some e)
