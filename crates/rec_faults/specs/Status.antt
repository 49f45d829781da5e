-- The statuses that the program ends with.
use Rattle.std.specs.Prelude.{ℕ}
use Rattle.rec_store.specs.declared.read_error.RecordReadError.TheVariants as parts
use Rattle.rec_store.specs.declared.read_error.RecordReadError.{RecordReadError}
use Rattle.rec_portable.specs.declared.errors.PortableRecordingReadError.TheVariants as bundles
use Rattle.rec_portable.specs.declared.errors.PortableRecordingReadError.{
  PortableRecordingReadError,
}
use Rattle.rec_replay.specs.declared.conversion_error.ReplayConversionError.TheVariants
    as conversions
use Rattle.rec_replay.specs.declared.conversion_error.ReplayConversionError.{ReplayConversionError}
use Rattle.rec_junit.specs.declared.errors.JunitError.TheVariants as reports
use Rattle.rec_junit.specs.declared.errors.JunitError.{JunitError}
use Rattle.rec_spans.specs.declared.errors.ChromeTraceError.{ChromeTraceError}
use Rattle.rec_slots.specs.declared.report.SlotError.TheVariants as slots
use Rattle.rec_slots.specs.declared.report.SlotError.{SlotError}
use Rattle.rec_errors.specs.declared.export_error.RecordExportError.TheVariants.{
  SourceFault,
  SessionTooLarge,
  ParseHead,
  ReadRunLog,
  ParseEvent,
  NameCollision,
  CountOutOfRange,
  FileTooLarge,
  MissingTestStart,
  MissingScriptStart,
  MissingStressSubRunStart,
  SpanAlreadyOpen,
  SlotBusy,
  TimestampOutOfRange,
  RowOutOfRange,
  BundleFault,
  TraceFault,
  OutOfMemory,
}
use Rattle.rec_errors.specs.declared.export_error.RecordExportError.{RecordExportError}
use Rattle.rec_errors.specs.declared.reading_error.ReadingError.TheVariants as reading
use Rattle.rec_errors.specs.declared.reading_error.ReadingError.{ReadingError}
use Rattle.rec_errors.specs.declared.words_error.WordsError.{WordsError}
use Rattle.rec_errors.specs.LineFaults.{line_fault}
use Rattle.rec_errors.specs.TraceFaults.{trace_fault}

-- the status for faulty words
abbrev pub words_status : WordsError → ℕ
words_status fault = 2

-- the status for a session that isn't exported
abbrev pub export_status : RecordExportError → ℕ
export_status SourceFault = 3
export_status (SessionTooLarge limit) = 4
export_status ParseHead = 5
export_status (ReadRunLog line_number) = 5
export_status (ParseEvent line_number) = 5
export_status (NameCollision file_name) = 6
export_status (CountOutOfRange event) = 9
export_status (FileTooLarge file_name size limit) = 7
export_status (MissingTestStart event binary_id test_name) = 8
export_status (MissingScriptStart event script_id) = 8
export_status (MissingStressSubRunStart event) = 8
export_status (SpanAlreadyOpen event span) = 8
export_status (SlotBusy event slot) = 8
export_status (TimestampOutOfRange event) = 9
export_status (RowOutOfRange event number) = 9
export_status BundleFault = 10
export_status TraceFault = 11
export_status OutOfMemory = 70

-- the status for a bundle that isn't read
abbrev pub bundle_status : PortableRecordingReadError → ℕ
bundle_status bundles.SourceFault = 3
bundle_status (bundles.SpoolTooLarge limit) = 4
bundle_status (bundles.FileTooLarge file_name size limit) = 7
bundle_status (bundles.ReadArchive fault) = 12
bundle_status (bundles.NotAWrapperArchive file_count zip_count) = 12
bundle_status bundles.ParseManifest = 12
bundle_status (bundles.UnsupportedFormatVersion found supported incompatibility) = 12
bundle_status (bundles.UnsupportedStoreFormatVersion found supported incompatibility) = 12
bundle_status (bundles.MissingFile file_name) = 12
bundle_status (bundles.ExtractFile file_name) = 11
bundle_status bundles.OutOfMemory = 70

-- the status for a log that has no trace: that of a session which is refused for it
abbrev pub trace_status : ChromeTraceError → ℕ
trace_status e = export_status (trace_fault e)

-- the status for a part of a store that isn't read: the bundle lacks it, or it stands for nothing,
-- but for one that is longer than the limit
abbrev pub part_status : RecordReadError → ℕ
part_status (parts.RunNotFound path) = 12
part_status (parts.OpenArchive path) = 12
part_status (parts.ParseArchive path fault) = 12
part_status (parts.FileNotFound file_name) = 12
part_status (parts.FileTooLarge file_name size limit) = 7
part_status (parts.NotUtf8 file_name) = 12
part_status (parts.DeserializeMetadata file_name) = 12
part_status (parts.UnknownOutputType file_name) = 12
part_status (parts.ExtractFile store_path) = 12
part_status (parts.OpenRunLog path) = 12
part_status (parts.DiskFault path) = 12
part_status (parts.ReadRunLog line_number) = 12
part_status (parts.ParseEvent line_number) = 12
part_status parts.OutOfMemory = 70

-- the status for an event that isn't replayed, whatever the cause
abbrev pub conversion_status : ReplayConversionError → ℕ
conversion_status (conversions.TestNotFound binary_id test_name) = 13
conversion_status (conversions.RecordRead e) = 13
conversion_status conversions.InvalidStressCount = 13
conversion_status conversions.OutOfMemory = 70

-- the status for an event that isn't reported
abbrev pub junit_status : JunitError → ℕ
junit_status reports.NotLoadedOutput = 13
junit_status reports.SuccessAsFailure = 13
junit_status reports.OutOfMemory = 70

-- the status for events that have no report of their slots;
-- those that are refused have that of a log without a trace
abbrev pub slots_status : SlotError → ℕ
slots_status (slots.Refused e) = trace_status e
slots_status slots.NotOneRun = 14
slots_status (slots.AttemptOutside event) = 14
slots_status (slots.StampFell event) = 14
slots_status slots.OutOfMemory = 70

-- the status for a bundle of which a command prints nothing;
-- a line has that of a session which is refused for it
abbrev pub reading_status : ReadingError → ℕ
reading_status (reading.Bundle e) = bundle_status e
reading_status (reading.Trace e) = trace_status e
reading_status (reading.Part e) = part_status e
reading_status (reading.Line e) = export_status (line_fault e)
reading_status (reading.Conversion e) = conversion_status e
reading_status (reading.Report e) = junit_status e
reading_status (reading.Slots e) = slots_status e
reading_status (reading.OutputChanged file_name) = 13
reading_status reading.OutOfMemory = 70
