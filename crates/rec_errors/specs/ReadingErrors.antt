-- Why nothing is printed of a bundle, by what was refused.
use Rattle.rec_codec.specs.declared.line_events.LineError.TheVariants as lines
use Rattle.rec_codec.specs.declared.line_events.LineError.{LineError}
use Rattle.rec_store.specs.declared.read_error.RecordReadError.TheVariants as parts
use Rattle.rec_store.specs.declared.read_error.RecordReadError.{RecordReadError}
use Rattle.rec_portable.specs.declared.errors.PortableRecordingReadError.TheVariants as bundles
use Rattle.rec_portable.specs.declared.errors.PortableRecordingReadError.{
  PortableRecordingReadError,
}
use Rattle.rec_replay.specs.declared.conversion_error.ReplayConversionError.TheVariants
    as conversions
use Rattle.rec_replay.specs.declared.conversion_error.ReplayConversionError.{ReplayConversionError}
use Rattle.rec_junit.specs.declared.errors.JunitError.TheVariants as reports
use Rattle.rec_junit.specs.declared.errors.JunitError.{JunitError}
use Rattle.rec_spans.specs.declared.errors.ChromeTraceError.TheVariants as traces
use Rattle.rec_spans.specs.declared.errors.ChromeTraceError.{ChromeTraceError}
use Rattle.rec_slots.specs.declared.report.SlotError.TheVariants as slots
use Rattle.rec_slots.specs.declared.report.SlotError.{SlotError}
use Rattle.rec_errors.specs.declared.reading_error.ReadingError.TheVariants.{Bundle, Trace}
use Rattle.rec_errors.specs.declared.reading_error.ReadingError.TheVariants.{Part, Line}
use Rattle.rec_errors.specs.declared.reading_error.ReadingError.TheVariants.{Conversion, Report}
use Rattle.rec_errors.specs.declared.reading_error.ReadingError.TheVariants.{Slots, OutOfMemory}
use Rattle.rec_errors.specs.declared.reading_error.ReadingError.{ReadingError}

-- want of memory is one answer, wherever it comes
abbrev pub bundle_error : PortableRecordingReadError → ReadingError
bundle_error bundles.OutOfMemory = OutOfMemory
bundle_error e = Bundle e

abbrev pub trace_error : ChromeTraceError → ReadingError
trace_error traces.OutOfMemory = OutOfMemory
trace_error e = Trace e

abbrev pub part_error : RecordReadError → ReadingError
part_error parts.OutOfMemory = OutOfMemory
part_error e = Part e

abbrev pub line_error : LineError → ReadingError
line_error lines.OutOfMemory = OutOfMemory
line_error e = Line e

abbrev pub conversion_error : ReplayConversionError → ReadingError
conversion_error conversions.OutOfMemory = OutOfMemory
conversion_error e = Conversion e

abbrev pub report_error : JunitError → ReadingError
report_error reports.OutOfMemory = OutOfMemory
report_error e = Report e

abbrev pub slot_error : SlotError → ReadingError
slot_error slots.OutOfMemory = OutOfMemory
slot_error e = Slots e
