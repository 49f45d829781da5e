-- A bundle that is made of a run's directory.
use Rattle.std.specs.Prelude.{◌≡◌, ◌⊎◌, ℕ, ◌≤◌, List, length, take}
use Rattle.std.specs.Prelude.{Option, Some, None, Result, Ok, Err}
use Rattle.serde_json.specs.Written.{compact_text}
use Rattle.rec_container.specs.Causes.{Rose}
use Rattle.rec_container.specs.Container.{spell}
use Rattle.rec_disk.specs.declared.disk.DiskError.TheVariants as disk
use Rattle.rec_disk.specs.declared.disk.DiskError.{DiskError}
use Rattle.rec_disk.specs.Disks.{BothKnown, Files}
use Rattle.rec_format.specs.declared.run.RecordedRunInfo.{RecordedRunInfo}
use Rattle.rec_format.specs.RunForms.{manifest_value}
use Rattle.rec_format.specs.Runs.{manifest_of}
use Rattle.rec_store.specs.Entries.{bundle_entries, log_name, store_name}
use Rattle.rec_directory.specs.Paths.{joined, path_of_log, path_of_store}
use Rattle.rec_portable_writer.specs.declared.errors.PortableRecordingError.TheVariants.{
  ReadFile,
  WriteFile,
  OutOfMemory,
}
use Rattle.rec_portable_writer.specs.declared.errors.PortableRecordingError.{PortableRecordingError}
use Rattle.rec_portable_writer.specs.declared.packing.PortableRecordingResult.{
  PortableRecordingResult,
}
use Rattle.rec_portable_writer.specs.Names.{temporary_path}
use Rattle.rec_portable_writer.specs.Preparing.{Packing}

-- the bundle of a run, of its log and of its store
unfoldable pub bundle_of : RecordedRunInfo → List ℕ → List ℕ → List ℕ
bundle_of info log store =
    spell (bundle_entries (compact_text (manifest_value (manifest_of info))) log store)

-- these bytes are the bundle of the run whose files these are
pub record IsBundle (fs : Files) (info : RecordedRunInfo) (dir bundle : List ℕ) : Type 0 where
  pub log : List ℕ
  pub store : List ℕ
  pub log_read : fs (path_of_log dir) ≡ Some log
  pub store_read : fs (path_of_store dir) ≡ Some store
  pub is : bundle ≡ bundle_of info log store

abbrev pub Bundles : Option Files → RecordedRunInfo → List ℕ → List ℕ → Type 0
Bundles None info dir bundle = Unit {0}
Bundles (Some fs) info dir bundle = IsBundle fs info dir bundle

-- ---- refusals

-- the file isn't there now, or the disk failed
abbrev pub MissesFile : Option Files → ℕ → ℕ → List ℕ → Type 0
MissesFile None before now path = Unit {0}
MissesFile (Some fs) before now path = (fs path ≡ None) ⊎ Rose before now

-- why a file of a run wasn't read
abbrev pub Unread : Option Files → ℕ → ℕ → List ℕ → List ℕ → PortableRecordingError → Type 0
Unread files before now dir name (ReadFile n) =
    (n ≡ name) × MissesFile files before now (joined dir name)
Unread files before now dir name OutOfMemory = Unit {0}
Unread files before now dir name e = ⊥

-- why the bundle wasn't made
abbrev pub Unbundled : Option Files → ℕ → ℕ → List ℕ → PortableRecordingError → Type 0
Unbundled files before now dir e =
    Unread files before now dir log_name e ⊎ Unread files before now dir store_name e

-- why it wasn't written
abbrev pub Unwritten : ℕ → ℕ → List ℕ → PortableRecordingError → Type 0
Unwritten before now path (WriteFile p) = (p ≡ path) × Rose before now
Unwritten before now path OutOfMemory = Unit {0}
Unwritten before now path e = ⊥

-- the refusal of a disk that fails
abbrev pub write_error : List ℕ → DiskError → PortableRecordingError
write_error path disk.Missing = WriteFile path
write_error path disk.DiskFailed = WriteFile path
write_error path disk.OutOfMemory = OutOfMemory

-- ---- the files

-- the path holds the run's bundle, the temporary one nothing, and every other file is as it was
pub record Packed (fs gs : Files) (info : RecordedRunInfo) (dir path : List ℕ)
    (result : PortableRecordingResult) : Type 0 where
  pub bundle : List ℕ
  pub is_bundle : IsBundle fs info dir bundle
  pub written : gs path ≡ Some bundle
  pub temporary : gs (temporary_path path) ≡ None
  pub others : (p : List ℕ) → ¬ (p ≡ path) → ¬ (p ≡ temporary_path path) → gs p ≡ fs p
  pub path_is : result.path ≡ path
  pub size_is : result.size ≡ length bundle

-- a prefix of the run's bundle may stand at the temporary path
pub record IsStarted (fs gs : Files) (info : RecordedRunInfo) (dir path : List ℕ) : Type 0 where
  pub bundle : List ℕ
  pub count : ℕ
  pub is_bundle : IsBundle fs info dir bundle
  pub written : gs (temporary_path path) ≡ Some (take count bundle)

-- the path, the run's files and every other file but the temporary one are as they were
pub record Unpacked (fs gs : Files) (info : RecordedRunInfo) (dir path : List ℕ) : Type 0 where
  pub output : gs path ≡ fs path
  pub log : gs (path_of_log dir) ≡ fs (path_of_log dir)
  pub store : gs (path_of_store dir) ≡ fs (path_of_store dir)
  pub others : (p : List ℕ) → ¬ (p ≡ temporary_path path) → gs p ≡ fs p
  pub temporary : (gs (temporary_path path) ≡ fs (temporary_path path))
      ⊎ IsStarted fs gs info dir path

abbrev pub PacksIn : Files → Files → ℕ → ℕ → RecordedRunInfo → List ℕ → List ℕ
    → Result PortableRecordingResult PortableRecordingError → Type 0
PacksIn fs gs before now info dir path (Ok result) = Packed fs gs info dir path result
PacksIn fs gs before now info dir path (Err e) =
    Unpacked fs gs info dir path
    × (Unbundled (Some fs) before now dir e ⊎ Unwritten before now path e)

module _ {D : Type 0} (files : D → Option Files) (faults : D → ℕ) where
  -- a bundle of the run is written to a path, or why not
  pub record PacksRun (old new : Packing D) (path : List ℕ)
      (result : Result PortableRecordingResult PortableRecordingError) : Type 0 where
    pub reference : new.disk.ghost_name ≡ old.disk.ghost_name
    pub run_info : new.run_info ≡ old.run_info
    pub run_dir : new.run_dir ≡ old.run_dir
    pub later : faults old.disk.now ≤ faults new.disk.now
    pub packs : BothKnown (files old.disk.now) (files new.disk.now) (λ fs gs. PacksIn fs gs
        (faults old.disk.now) (faults new.disk.now) old.run_info old.run_dir path result)
