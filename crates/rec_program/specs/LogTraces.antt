-- The trace of a log: its text, or why it has none.
use Rattle.std.specs.declared.alloc.Global.{Global}
use Rattle.std.specs.Option.{option_or}
use Rattle.std.specs.Prelude.{◌≡◌, ◌⊎◌, ℕ, List, map, Option, None}
use Rattle.std.specs.Prelude.{Some, option_map, Result, Ok, Err, Vec}
use Rattle.semver.specs.Parse.{Parts}
use Rattle.rec_codec.specs.LineReading.{events_before_fault, first_line_fault}
use Rattle.rec_codec.specs.Lines.{NumberedLine}
use Rattle.rec_spans.specs.declared.errors.ChromeTraceError.TheVariants.{OutOfMemory, ReadError}
use Rattle.rec_spans.specs.declared.errors.ChromeTraceError.{ChromeTraceError}
use Rattle.rec_spans.specs.declared.settings.ChromeTraceGroupBy.{ChromeTraceGroupBy}
use Rattle.rec_spans.specs.Plain.{PlainEvent, plain}
use Rattle.rec_spans.specs.Refusals.{events_refusal}
use Rattle.rec_trace.specs.declared.settings.ChromeTraceMessageFormat.{ChromeTraceMessageFormat}
use Rattle.rec_trace.specs.PrintedTimeline.{PrintsTimeline}
use Rattle.rec_trace.specs.Traces.{trace_text}

-- the events of a log before the first line that fails, without outputs
abbrev pub plain_log : List NumberedLine → List PlainEvent
plain_log lines = map plain (events_before_fault lines)

-- Why a log has no trace, if it has none: the first cause of an event before the first line that
-- fails, else this line's fault. So the cause of an event comes before the fault of a later line,
-- and after that of an earlier one
unfoldable pub log_refusal : ChromeTraceGroupBy → List NumberedLine → Option ChromeTraceError
log_refusal g lines =
    option_or (events_refusal g (plain_log lines)) (option_map ReadError (first_line_fault lines))

-- the text of the trace of a log
unfoldable pub log_trace : ChromeTraceGroupBy → ChromeTraceMessageFormat → Parts → List NumberedLine
    → List ℕ
log_trace g format version lines = trace_text format g version (plain_log lines)

-- a log that isn't refused is answered by the text of its trace, in which a viewer reads the
-- timeline of its events; one that is, by why it is; or memory ran out
abbrev pub TracesLog : ChromeTraceGroupBy → ChromeTraceMessageFormat → Parts → List NumberedLine
    → Result (Vec ℕ Global) ChromeTraceError → Type 0
TracesLog g format version lines (Ok text) =
    (log_refusal g lines ≡ None)
    × (text.items ≡ log_trace g format version lines)
    × PrintsTimeline version g (plain_log lines) text.items
TracesLog g format version lines (Err e) = (e ≡ OutOfMemory) ⊎ (log_refusal g lines ≡ Some e)
