-- The line of a part of a store that isn't read, and of an event that isn't replayed or reported.
use Rattle.std.specs.Prelude.{codes}
use Rattle.rec_store.specs.declared.read_error.RecordReadError.TheVariants as reads
use Rattle.rec_store.specs.declared.read_error.RecordReadError.{RecordReadError}
use Rattle.rec_replay.specs.declared.conversion_error.ReplayConversionError.TheVariants.{
  TestNotFound,
  RecordRead,
  InvalidStressCount,
  OutOfMemory,
}
use Rattle.rec_replay.specs.declared.conversion_error.ReplayConversionError.{ReplayConversionError}
use Rattle.rec_junit.specs.declared.errors.JunitError.TheVariants as reports
use Rattle.rec_junit.specs.declared.errors.JunitError.{JunitError}
use Rattle.rec_faults.specs.FaultLine.{Shown, text, number, variant, no_fields}
use Rattle.rec_faults.specs.FaultLine.{field, unnamed, container_shown}

-- a part of a store that isn't read
abbrev pub part_shown : RecordReadError → Shown
part_shown (reads.RunNotFound path) =
    variant (codes "RunNotFound") (field (codes "path") (text path) no_fields)
part_shown (reads.OpenArchive path) =
    variant (codes "OpenArchive") (field (codes "path") (text path) no_fields)
part_shown (reads.ParseArchive path fault) =
    variant (codes "ParseArchive")
    (field (codes "path") (text path) (field (codes "fault") (container_shown fault) no_fields))
part_shown (reads.FileNotFound file_name) =
    variant (codes "FileNotFound") (field (codes "file_name") (text file_name) no_fields)
part_shown (reads.FileTooLarge file_name size limit) =
    variant (codes "FileTooLarge") (field (codes "file_name") (text file_name)
    (field (codes "size") (number size) (field (codes "limit") (number limit) no_fields)))
part_shown (reads.NotUtf8 file_name) =
    variant (codes "NotUtf8") (field (codes "file_name") (text file_name) no_fields)
part_shown (reads.DeserializeMetadata file_name) =
    variant (codes "DeserializeMetadata") (field (codes "file_name") (text file_name) no_fields)
part_shown (reads.UnknownOutputType file_name) =
    variant (codes "UnknownOutputType") (field (codes "file_name") (text file_name) no_fields)
part_shown (reads.ExtractFile store_path) =
    variant (codes "ExtractFile") (field (codes "store_path") (text store_path) no_fields)
part_shown (reads.OpenRunLog path) =
    variant (codes "OpenRunLog") (field (codes "path") (text path) no_fields)
part_shown (reads.DiskFault path) =
    variant (codes "DiskFault") (field (codes "path") (text path) no_fields)
part_shown (reads.ReadRunLog line_number) =
    variant (codes "ReadRunLog") (field (codes "line_number") (number line_number) no_fields)
part_shown (reads.ParseEvent line_number) =
    variant (codes "ParseEvent") (field (codes "line_number") (number line_number) no_fields)
part_shown reads.OutOfMemory = variant (codes "OutOfMemory") no_fields

-- an event that isn't replayed; why one of its outputs isn't read is a field without a name
abbrev pub conversion_shown : ReplayConversionError → Shown
conversion_shown (TestNotFound binary_id test_name) =
    variant (codes "TestNotFound") (field (codes "binary_id") (text binary_id)
    (field (codes "test_name") (text test_name) no_fields))
conversion_shown (RecordRead e) = variant (codes "RecordRead") (unnamed (part_shown e) no_fields)
conversion_shown InvalidStressCount = variant (codes "InvalidStressCount") no_fields
conversion_shown OutOfMemory = variant (codes "OutOfMemory") no_fields

-- an event that isn't reported
abbrev pub junit_shown : JunitError → Shown
junit_shown reports.NotLoadedOutput = variant (codes "NotLoadedOutput") no_fields
junit_shown reports.SuccessAsFailure = variant (codes "SuccessAsFailure") no_fields
junit_shown reports.OutOfMemory = variant (codes "OutOfMemory") no_fields
