-- The refusal of a session for its trace.
use Rattle.std.specs.Prelude.{Some}
use Rattle.rec_spans.specs.declared.errors.ChromeTraceError.TheVariants as traces
use Rattle.rec_spans.specs.declared.errors.ChromeTraceError.{ChromeTraceError}
use Rattle.rec_errors.specs.declared.export_error.RecordExportError.TheVariants.{
  CountOutOfRange,
  MissingScriptStart,
  MissingStressSubRunStart,
  MissingTestStart,
  OutOfMemory,
  RowOutOfRange,
  SlotBusy,
  SpanAlreadyOpen,
  TimestampOutOfRange,
}
use Rattle.rec_errors.specs.declared.export_error.RecordExportError.{RecordExportError}
use Rattle.rec_errors.specs.LineFaults.{line_fault}

abbrev pub trace_fault : ChromeTraceError → RecordExportError
trace_fault (traces.ReadError fault) = line_fault fault
trace_fault (traces.MissingTestStart event binary_id test_name) =
    MissingTestStart event binary_id test_name
trace_fault (traces.MissingScriptStart event script_id) = MissingScriptStart event script_id
trace_fault (traces.MissingStressSubRunStart event) = MissingStressSubRunStart event
trace_fault (traces.SpanAlreadyOpen event span) = SpanAlreadyOpen event span
trace_fault (traces.SlotBusy event slot) = SlotBusy event slot
trace_fault (traces.TimestampOutOfRange event) = TimestampOutOfRange event
trace_fault (traces.RowOutOfRange event number) = RowOutOfRange event number
trace_fault (traces.CountOutOfRange event) = CountOutOfRange (Some event)
trace_fault traces.OutOfMemory = OutOfMemory
