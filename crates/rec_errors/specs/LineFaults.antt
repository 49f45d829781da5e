-- The refusal of a session for the fault of a line.
use Rattle.rec_codec.specs.declared.line_events.LineError.TheVariants as lines
use Rattle.rec_codec.specs.declared.line_events.LineError.{LineError}
use Rattle.rec_errors.specs.declared.export_error.RecordExportError.TheVariants.{
  ReadRunLog,
  ParseEvent,
  OutOfMemory,
}
use Rattle.rec_errors.specs.declared.export_error.RecordExportError.{RecordExportError}

abbrev pub line_fault : LineError → RecordExportError
line_fault (lines.ReadRunLog n) = ReadRunLog n
line_fault (lines.ParseEvent n) = ParseEvent n
line_fault lines.OutOfMemory = OutOfMemory
