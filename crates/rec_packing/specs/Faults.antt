-- Which error stands for that of what is packed.
use Rattle.rec_container.specs.declared.within.ReadError.TheVariants as reading
use Rattle.rec_container.specs.declared.within.ReadError.{ReadError}
use Rattle.rec_disk.specs.declared.disk.DiskError.TheVariants as disk
use Rattle.rec_disk.specs.declared.disk.DiskError.{DiskError}
use Rattle.rec_salvage.specs.declared.errors.SalvageError.TheVariants as salvages
use Rattle.rec_salvage.specs.declared.errors.SalvageError.{SalvageError}
use Rattle.rec_errors.specs.declared.export_error.RecordExportError.TheVariants as exports
use Rattle.rec_errors.specs.declared.export_error.RecordExportError.{RecordExportError}
use Rattle.rec_packing.specs.declared.errors.PackError.TheVariants.{
  BundleFault,
  Closing,
  OutOfMemory,
  Salvage,
}
use Rattle.rec_packing.specs.declared.errors.PackError.{PackError}

-- of the source of the head that a run ended with
abbrev pub closing_fault : ReadError → PackError
closing_fault reading.SourceFault = Closing exports.SourceFault
closing_fault (reading.TooLarge limit) = Closing (exports.SessionTooLarge limit)
closing_fault reading.OutOfMemory = OutOfMemory

-- of that head
abbrev pub export_fault : RecordExportError → PackError
export_fault exports.OutOfMemory = OutOfMemory
export_fault e = Closing e

-- of what is salvaged
abbrev pub salvage_fault : SalvageError → PackError
salvage_fault salvages.OutOfMemory = OutOfMemory
salvage_fault e = Salvage e

-- of the disk that the bundle is written to
abbrev pub write_fault : DiskError → PackError
write_fault disk.Missing = BundleFault
write_fault disk.DiskFailed = BundleFault
write_fault disk.OutOfMemory = OutOfMemory
