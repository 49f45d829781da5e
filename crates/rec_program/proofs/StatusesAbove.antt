-- The statuses of refusals are above those of success and of faulty words.
use Rattle.std.proofs.Common.{◌<◌, lit<}
use Rattle.rec_store.specs.declared.read_error.RecordReadError.TheVariants as parts
use Rattle.rec_store.specs.declared.read_error.RecordReadError.{RecordReadError}
use Rattle.rec_portable.specs.declared.errors.PortableRecordingReadError.TheVariants as bundles
use Rattle.rec_portable.specs.declared.errors.PortableRecordingReadError.TheVariants.{FileTooLarge}
use Rattle.rec_portable.specs.declared.errors.PortableRecordingReadError.{
  PortableRecordingReadError,
}
use Rattle.rec_replay.specs.declared.conversion_error.ReplayConversionError.TheVariants
    as conversions
use Rattle.rec_replay.specs.declared.conversion_error.ReplayConversionError.{ReplayConversionError}
use Rattle.rec_junit.specs.declared.errors.JunitError.TheVariants as reports
use Rattle.rec_junit.specs.declared.errors.JunitError.{JunitError}
use Rattle.rec_salvage.specs.declared.errors.SalvageError.TheVariants as salvages
use Rattle.rec_salvage.specs.declared.errors.SalvageError.{SalvageError}
use Rattle.rec_slots.specs.declared.report.SlotError.TheVariants as slots
use Rattle.rec_slots.specs.declared.report.SlotError.{SlotError}
use Rattle.rec_errors.specs.declared.export_error.RecordExportError.TheVariants as exports
use Rattle.rec_errors.specs.declared.export_error.RecordExportError.{RecordExportError}
use Rattle.rec_errors.specs.declared.reading_error.ReadingError.TheVariants.{Bundle, Trace}
use Rattle.rec_errors.specs.declared.reading_error.ReadingError.TheVariants.{Part, Line}
use Rattle.rec_errors.specs.declared.reading_error.ReadingError.TheVariants.{Conversion, Report}
use Rattle.rec_errors.specs.declared.reading_error.ReadingError.TheVariants.{Slots, OutOfMemory}
use Rattle.rec_errors.specs.declared.reading_error.ReadingError.TheVariants.{OutputChanged}
use Rattle.rec_errors.specs.declared.reading_error.ReadingError.{ReadingError}
use Rattle.rec_errors.specs.LineFaults.{line_fault}
use Rattle.rec_errors.specs.TraceFaults.{trace_fault}
use Rattle.rec_live_recording.specs.declared.errors.LiveError.TheVariants as live
use Rattle.rec_live_recording.specs.declared.errors.LiveError.{LiveError}
use Rattle.rec_packing.specs.declared.errors.PackError.TheVariants as packs
use Rattle.rec_packing.specs.declared.errors.PackError.{PackError}
use Rattle.rec_faults.specs.DirectoryCommands.{live_status, pack_status}
use Rattle.rec_faults.specs.Status.{bundle_status, conversion_status, export_status}
use Rattle.rec_faults.specs.Status.{junit_status, part_status, reading_status, slots_status}
use Rattle.rec_faults.specs.WritingCommands.{salvage_status}

pub export_above : (e : RecordExportError) → 2 < export_status e
export_above exports.SourceFault = lit< tt
export_above (exports.SessionTooLarge limit) = lit< tt
export_above exports.ParseHead = lit< tt
export_above (exports.ReadRunLog line_number) = lit< tt
export_above (exports.ParseEvent line_number) = lit< tt
export_above (exports.NameCollision file_name) = lit< tt
export_above (exports.CountOutOfRange event) = lit< tt
export_above (exports.FileTooLarge file_name size limit) = lit< tt
export_above (exports.MissingTestStart event binary_id test_name) = lit< tt
export_above (exports.MissingScriptStart event script_id) = lit< tt
export_above (exports.MissingStressSubRunStart event) = lit< tt
export_above (exports.SpanAlreadyOpen event span) = lit< tt
export_above (exports.SlotBusy event slot) = lit< tt
export_above (exports.TimestampOutOfRange event) = lit< tt
export_above (exports.RowOutOfRange event number) = lit< tt
export_above exports.BundleFault = lit< tt
export_above exports.TraceFault = lit< tt
export_above exports.OutOfMemory = lit< tt

pub bundle_above : (e : PortableRecordingReadError) → 2 < bundle_status e
bundle_above bundles.SourceFault = lit< tt
bundle_above (bundles.SpoolTooLarge limit) = lit< tt
bundle_above (bundles.FileTooLarge file_name size limit) = lit< tt
bundle_above (bundles.ReadArchive fault) = lit< tt
bundle_above (bundles.NotAWrapperArchive file_count zip_count) = lit< tt
bundle_above bundles.ParseManifest = lit< tt
bundle_above (bundles.UnsupportedFormatVersion found supported incompatibility) = lit< tt
bundle_above (bundles.UnsupportedStoreFormatVersion found supported incompatibility) = lit< tt
bundle_above (bundles.MissingFile file_name) = lit< tt
bundle_above (bundles.ExtractFile file_name) = lit< tt
bundle_above bundles.OutOfMemory = lit< tt

part_above : (e : RecordReadError) → 2 < part_status e
part_above (parts.RunNotFound path) = lit< tt
part_above (parts.OpenArchive path) = lit< tt
part_above (parts.ParseArchive path fault) = lit< tt
part_above (parts.FileNotFound file_name) = lit< tt
part_above (parts.FileTooLarge file_name size limit) = lit< tt
part_above (parts.NotUtf8 file_name) = lit< tt
part_above (parts.DeserializeMetadata file_name) = lit< tt
part_above (parts.UnknownOutputType file_name) = lit< tt
part_above (parts.ExtractFile store_path) = lit< tt
part_above (parts.OpenRunLog path) = lit< tt
part_above (parts.DiskFault path) = lit< tt
part_above (parts.ReadRunLog line_number) = lit< tt
part_above (parts.ParseEvent line_number) = lit< tt
part_above parts.OutOfMemory = lit< tt

conversion_above : (e : ReplayConversionError) → 2 < conversion_status e
conversion_above (conversions.TestNotFound binary_id test_name) = lit< tt
conversion_above (conversions.RecordRead e) = lit< tt
conversion_above conversions.InvalidStressCount = lit< tt
conversion_above conversions.OutOfMemory = lit< tt

junit_above : (e : JunitError) → 2 < junit_status e
junit_above reports.NotLoadedOutput = lit< tt
junit_above reports.SuccessAsFailure = lit< tt
junit_above reports.OutOfMemory = lit< tt

slots_above : (e : SlotError) → 2 < slots_status e
slots_above (slots.Refused e) = export_above (trace_fault e)
slots_above slots.NotOneRun = lit< tt
slots_above (slots.AttemptOutside event) = lit< tt
slots_above (slots.StampFell event) = lit< tt
slots_above slots.OutOfMemory = lit< tt

pub reading_above : (e : ReadingError) → 2 < reading_status e
reading_above (Bundle e) = bundle_above e
reading_above (Trace e) = export_above (trace_fault e)
reading_above (Part e) = part_above e
reading_above (Line e) = export_above (line_fault e)
reading_above (Conversion e) = conversion_above e
reading_above (Report e) = junit_above e
reading_above (Slots e) = slots_above e
reading_above (OutputChanged file_name) = lit< tt
reading_above OutOfMemory = lit< tt

pub live_above : (e : LiveError) → 2 < live_status e
live_above (live.Refused e) = export_above e
live_above live.ManifestFault = lit< tt
live_above live.StoreFault = lit< tt
live_above live.LogFault = lit< tt
live_above live.OutFault = lit< tt

pub salvage_above : (e : SalvageError) → 2 < salvage_status e
salvage_above salvages.BadMagic = lit< tt
salvage_above (salvages.MissingMeta file_name) = lit< tt
salvage_above (salvages.BadMeta file_name) = lit< tt
salvage_above (salvages.OpenArchive path) = lit< tt
salvage_above (salvages.OpenRunLog path) = lit< tt
salvage_above (salvages.DiskFault path) = lit< tt
salvage_above salvages.OutOfMemory = lit< tt

pub pack_above : (e : PackError) → 2 < pack_status e
pack_above (packs.OpenManifest path) = lit< tt
pack_above (packs.DiskFault path) = lit< tt
pack_above packs.ParseManifest = lit< tt
pack_above (packs.Closing e) = export_above e
pack_above packs.OtherRun = lit< tt
pack_above (packs.Salvage e) = salvage_above e
pack_above packs.BundleFault = lit< tt
pack_above packs.OutOfMemory = lit< tt
