-- The line of a bundle that isn't read, or of which a command prints nothing.
use Rattle.std.specs.Prelude.{ℕ, List, codes}
use
    Rattle.rec_format.specs.declared.incompatibility.PortableRecordingVersionIncompatibility.TheVariants
    as bundles
use Rattle.rec_format.specs.declared.incompatibility.PortableRecordingVersionIncompatibility.{
  PortableRecordingVersionIncompatibility,
}
use Rattle.rec_format.specs.declared.incompatibility.StoreVersionIncompatibility.TheVariants
    as stores
use Rattle.rec_format.specs.declared.incompatibility.StoreVersionIncompatibility.{
  StoreVersionIncompatibility,
}
use Rattle.rec_format.specs.declared.incompatibility.TooOldRecordingGuidance.TheVariants.{
  UseOlderNextest,
  Discard,
  Unknown,
}
use Rattle.rec_format.specs.declared.incompatibility.TooOldRecordingGuidance.{
  TooOldRecordingGuidance,
}
use Rattle.rec_format.specs.Incompatibility.{release_text}
use Rattle.rec_format.specs.Versions.{version_text}
use Rattle.rec_codec.specs.declared.line_events.LineError.{LineError}
use Rattle.rec_portable.specs.declared.errors.PortableRecordingReadError.TheVariants.{
  SourceFault,
  SpoolTooLarge,
  ReadArchive,
  NotAWrapperArchive,
  FileTooLarge,
  ParseManifest,
  UnsupportedFormatVersion,
  UnsupportedStoreFormatVersion,
  MissingFile,
  ExtractFile,
  OutOfMemory,
}
use Rattle.rec_portable.specs.declared.errors.PortableRecordingReadError.{
  PortableRecordingReadError,
}
use Rattle.rec_spans.specs.declared.errors.ChromeTraceError.TheVariants.{ReadError}
use Rattle.rec_spans.specs.declared.errors.ChromeTraceError.{ChromeTraceError}
use Rattle.rec_slots.specs.declared.report.SlotError.TheVariants as slots
use Rattle.rec_slots.specs.declared.report.SlotError.{SlotError}
use Rattle.rec_errors.specs.declared.reading_error.ReadingError.TheVariants as reading
use Rattle.rec_errors.specs.declared.reading_error.ReadingError.{ReadingError}
use Rattle.rec_errors.specs.LineFaults.{line_fault}
use Rattle.rec_errors.specs.TraceFaults.{trace_fault}
use Rattle.rec_faults.specs.FaultLine.{Shown, Fields, text, number, variant, no_fields}
use Rattle.rec_faults.specs.FaultLine.{field, unnamed, export_shown, container_shown}
use Rattle.rec_faults.specs.ReplayLine.{part_shown, conversion_shown, junit_shown}

-- what to do with a recording that is too old
abbrev pub guidance_shown : TooOldRecordingGuidance → Shown
guidance_shown (UseOlderNextest last) =
    variant (codes "UseOlderNextest")
    (field (codes "last_nextest_version") (text (release_text last)) no_fields)
guidance_shown (Discard last) =
    variant (codes "Discard")
    (field (codes "last_nextest_version") (text (release_text last)) no_fields)
guidance_shown Unknown = variant (codes "Unknown") no_fields

-- two majors or two minors that don't fit, and what follows them
abbrev pub majors : ℕ → ℕ → Fields → Fields
majors recording supported rest =
    field (codes "recording_major") (number recording)
    (field (codes "supported_major") (number supported) rest)

abbrev pub minors : ℕ → ℕ → Fields
minors recording supported =
    field (codes "recording_minor") (number recording)
    (field (codes "supported_minor") (number supported) no_fields)

-- why a bundle's version isn't read
abbrev pub bundle_version_shown : PortableRecordingVersionIncompatibility → Shown
bundle_version_shown (bundles.MajorMismatch recording supported) =
    variant (codes "MajorMismatch") (majors recording supported no_fields)
bundle_version_shown (bundles.MinorTooNew recording supported) =
    variant (codes "MinorTooNew") (minors recording supported)

-- why a store's version isn't read
abbrev pub store_version_shown : StoreVersionIncompatibility → Shown
store_version_shown (stores.RecordingTooOld recording supported guidance) =
    variant (codes "RecordingTooOld")
    (majors recording supported (field (codes "guidance") (guidance_shown guidance) no_fields))
store_version_shown (stores.RecordingTooNew recording supported) =
    variant (codes "RecordingTooNew") (majors recording supported no_fields)
store_version_shown (stores.MinorTooNew recording supported) =
    variant (codes "MinorTooNew") (minors recording supported)

-- a version that was found, the one that is supported, and why the first isn't read
abbrev pub unsupported : List ℕ → List ℕ → Shown → Fields
unsupported found supported incompatibility =
    field (codes "found") (text found) (field (codes "supported") (text supported)
    (field (codes "incompatibility") incompatibility no_fields))

-- a bundle that isn't read
abbrev pub bundle_shown : PortableRecordingReadError → Shown
bundle_shown SourceFault = variant (codes "SourceFault") no_fields
bundle_shown (SpoolTooLarge limit) =
    variant (codes "SpoolTooLarge") (field (codes "limit") (number limit) no_fields)
bundle_shown (ReadArchive fault) =
    variant (codes "ReadArchive") (field (codes "fault") (container_shown fault) no_fields)
bundle_shown (NotAWrapperArchive file_count zip_count) =
    variant (codes "NotAWrapperArchive") (field (codes "file_count") (number file_count)
    (field (codes "zip_count") (number zip_count) no_fields))
bundle_shown (FileTooLarge file_name size limit) =
    variant (codes "FileTooLarge") (field (codes "file_name") (text file_name)
    (field (codes "size") (number size) (field (codes "limit") (number limit) no_fields)))
bundle_shown ParseManifest = variant (codes "ParseManifest") no_fields
bundle_shown (UnsupportedFormatVersion found supported incompatibility) =
    variant (codes "UnsupportedFormatVersion") (unsupported (version_text found.major found.minor)
    (version_text supported.major supported.minor) (bundle_version_shown incompatibility))
bundle_shown (UnsupportedStoreFormatVersion found supported incompatibility) =
    variant (codes "UnsupportedStoreFormatVersion")
    (unsupported (version_text found.major found.minor)
    (version_text supported.major supported.minor) (store_version_shown incompatibility))
bundle_shown (MissingFile file_name) =
    variant (codes "MissingFile") (field (codes "file_name") (text file_name) no_fields)
bundle_shown (ExtractFile file_name) =
    variant (codes "ExtractFile") (field (codes "file_name") (text file_name) no_fields)
bundle_shown OutOfMemory = variant (codes "OutOfMemory") no_fields

-- the fault of a line, as where a session is refused for it
abbrev pub line_shown : LineError → Shown
line_shown e = export_shown (line_fault e)

-- a log that can't be read shows its line's fault under `ReadError`; what else is refused is shown
-- as where a session is refused for it
abbrev pub trace_shown : ChromeTraceError → Shown
trace_shown (ReadError fault) = variant (codes "ReadError") (unnamed (line_shown fault) no_fields)
trace_shown e = export_shown (trace_fault e)

-- events that have no report of their slots; what is refused stands under `Refused`
abbrev pub slots_shown : SlotError → Shown
slots_shown (slots.Refused e) = variant (codes "Refused") (unnamed (trace_shown e) no_fields)
slots_shown slots.NotOneRun = variant (codes "NotOneRun") no_fields
slots_shown (slots.AttemptOutside event) =
    variant (codes "AttemptOutside") (field (codes "event") (number event) no_fields)
slots_shown (slots.StampFell event) =
    variant (codes "StampFell") (field (codes "event") (number event) no_fields)
slots_shown slots.OutOfMemory = variant (codes "OutOfMemory") no_fields

-- what a command doesn't print of a bundle
abbrev pub reading_shown : ReadingError → Shown
reading_shown (reading.Bundle e) = bundle_shown e
reading_shown (reading.Trace e) = trace_shown e
reading_shown (reading.Part e) = part_shown e
reading_shown (reading.Line e) = line_shown e
reading_shown (reading.Conversion e) = conversion_shown e
reading_shown (reading.Report e) = junit_shown e
reading_shown (reading.Slots e) = slots_shown e
reading_shown (reading.OutputChanged file_name) =
    variant (codes "OutputChanged") (field (codes "file_name") (text file_name) no_fields)
reading_shown reading.OutOfMemory = variant (codes "OutOfMemory") no_fields
