-- The line and the status of a bundle that isn't upgraded,
-- and of a recording of which nothing is salvaged.
use Rattle.std.specs.Prelude.{ℕ, codes}
use Rattle.rec_store.specs.declared.read_error.RecordReadError.TheVariants as parts
use Rattle.rec_store.specs.declared.read_error.RecordReadError.{RecordReadError}
use Rattle.rec_portable.specs.declared.upgrade_error.UpgradeError.TheVariants as upgrades
use Rattle.rec_portable.specs.declared.upgrade_error.UpgradeError.{UpgradeError}
use Rattle.rec_salvage.specs.declared.errors.SalvageError.TheVariants as salvages
use Rattle.rec_salvage.specs.declared.errors.SalvageError.{SalvageError}
use Rattle.rec_faults.specs.FaultLine.{Shown, text, number, variant, no_fields, field, unnamed}
use Rattle.rec_faults.specs.ReadingLine.{bundle_shown}
use Rattle.rec_faults.specs.ReplayLine.{part_shown}
use Rattle.rec_faults.specs.Status.{bundle_status, part_status}

-- ---- a bundle that isn't upgraded

-- why it isn't opened, or not read, is a field without a name
abbrev pub upgrade_shown : UpgradeError → Shown
upgrade_shown (upgrades.Open e) = variant (codes "Open") (unnamed (bundle_shown e) no_fields)
upgrade_shown (upgrades.ForeignEntry file_name) =
    variant (codes "ForeignEntry") (field (codes "file_name") (text file_name) no_fields)
upgrade_shown (upgrades.Read e) = variant (codes "Read") (unnamed (part_shown e) no_fields)
upgrade_shown upgrades.CountOutOfRange = variant (codes "CountOutOfRange") no_fields
upgrade_shown (upgrades.FileTooLarge file_name size limit) =
    variant (codes "FileTooLarge") (field (codes "file_name") (text file_name)
    (field (codes "size") (number size) (field (codes "limit") (number limit) no_fields)))
upgrade_shown upgrades.BundleFault = variant (codes "BundleFault") no_fields
upgrade_shown upgrades.OutOfMemory = variant (codes "OutOfMemory") no_fields

-- the status for a part of a run: a faulty line has that of a session's
abbrev pub run_part_status : RecordReadError → ℕ
run_part_status (parts.ReadRunLog line_number) = 5
run_part_status (parts.ParseEvent line_number) = 5
run_part_status e = part_status e

abbrev pub upgrade_status : UpgradeError → ℕ
upgrade_status (upgrades.Open e) = bundle_status e
upgrade_status (upgrades.ForeignEntry file_name) = 12
upgrade_status (upgrades.Read e) = run_part_status e
upgrade_status upgrades.CountOutOfRange = 9
upgrade_status (upgrades.FileTooLarge file_name size limit) = 7
upgrade_status upgrades.BundleFault = 10
upgrade_status upgrades.OutOfMemory = 70

-- ---- a recording of which nothing is salvaged

abbrev pub salvage_shown : SalvageError → Shown
salvage_shown salvages.BadMagic = variant (codes "BadMagic") no_fields
salvage_shown (salvages.MissingMeta file_name) =
    variant (codes "MissingMeta") (field (codes "file_name") (text file_name) no_fields)
salvage_shown (salvages.BadMeta file_name) =
    variant (codes "BadMeta") (field (codes "file_name") (text file_name) no_fields)
salvage_shown (salvages.OpenArchive path) =
    variant (codes "OpenArchive") (field (codes "path") (text path) no_fields)
salvage_shown (salvages.OpenRunLog path) =
    variant (codes "OpenRunLog") (field (codes "path") (text path) no_fields)
salvage_shown (salvages.DiskFault path) =
    variant (codes "DiskFault") (field (codes "path") (text path) no_fields)
salvage_shown salvages.OutOfMemory = variant (codes "OutOfMemory") no_fields

-- the status for a store of which nothing is salvaged;
-- files that aren't read are no bundle that is read
abbrev pub salvage_status : SalvageError → ℕ
salvage_status salvages.BadMagic = 15
salvage_status (salvages.MissingMeta file_name) = 15
salvage_status (salvages.BadMeta file_name) = 15
salvage_status (salvages.OpenArchive path) = 12
salvage_status (salvages.OpenRunLog path) = 12
salvage_status (salvages.DiskFault path) = 12
salvage_status salvages.OutOfMemory = 70
