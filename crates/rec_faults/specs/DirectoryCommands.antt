-- The line and the status of a recording that goes on and isn't finished, and of a directory that
-- isn't packed.
use Rattle.std.specs.Prelude.{ℕ, codes}
use Rattle.rec_live_recording.specs.declared.errors.LiveError.TheVariants as live
use Rattle.rec_live_recording.specs.declared.errors.LiveError.{LiveError}
use Rattle.rec_packing.specs.declared.errors.PackError.TheVariants as packs
use Rattle.rec_packing.specs.declared.errors.PackError.{PackError}
use Rattle.rec_faults.specs.FaultLine.{Shown, export_shown, field, no_fields, text, variant}
use Rattle.rec_faults.specs.Status.{export_status}
use Rattle.rec_faults.specs.WritingCommands.{salvage_shown, salvage_status}

-- ---- a recording that goes on

-- a line that is refused is told as a recording of the whole session tells it
abbrev pub live_shown : LiveError → Shown
live_shown (live.Refused e) = export_shown e
live_shown live.ManifestFault = variant (codes "ManifestFault") no_fields
live_shown live.StoreFault = variant (codes "StoreFault") no_fields
live_shown live.LogFault = variant (codes "LogFault") no_fields
live_shown live.OutFault = variant (codes "OutFault") no_fields

abbrev pub live_status : LiveError → ℕ
live_status (live.Refused e) = export_status e
live_status live.ManifestFault = 10
live_status live.StoreFault = 10
live_status live.LogFault = 10
live_status live.OutFault = 11

-- ---- a directory that isn't packed

abbrev pub pack_shown : PackError → Shown
pack_shown (packs.OpenManifest path) =
    variant (codes "OpenManifest") (field (codes "path") (text path) no_fields)
pack_shown (packs.DiskFault path) =
    variant (codes "DiskFault") (field (codes "path") (text path) no_fields)
pack_shown packs.ParseManifest = variant (codes "ParseManifest") no_fields
pack_shown (packs.Closing e) = export_shown e
pack_shown packs.OtherRun = variant (codes "OtherRun") no_fields
pack_shown (packs.Salvage e) = salvage_shown e
pack_shown packs.BundleFault = variant (codes "BundleFault") no_fields
pack_shown packs.OutOfMemory = variant (codes "OutOfMemory") no_fields

abbrev pub pack_status : PackError → ℕ
pack_status (packs.OpenManifest path) = 12
pack_status (packs.DiskFault path) = 12
pack_status packs.ParseManifest = 12
pack_status (packs.Closing e) = export_status e
pack_status packs.OtherRun = 5
pack_status (packs.Salvage e) = salvage_status e
pack_status packs.BundleFault = 10
pack_status packs.OutOfMemory = 70
