-- What a disk in memory is, as contracts see it.
use Rattle.std.specs.declared.alloc.Global.{Global}
use Rattle.std.specs.Map.{lookup}
use Rattle.std.specs.Prelude.{◌≡◌, ℕ, List, [], ◌∷◌, ◌++◌, length, take, drop}
use Rattle.std.specs.Prelude.{Bool, true, ◌&&◌, ◌==◌, map, Contains, Option, Some}
use Rattle.std.specs.Prelude.{None, Result, Ok, Err, Vec, String, string_bytes}
use Rattle.std.specs.Str.{bytes_eq}
use Rattle.rec_container.specs.Causes.{next_count}
use Rattle.rec_disk.specs.declared.disk.DiskError.TheVariants.{Missing, DiskFailed, OutOfMemory}
use Rattle.rec_disk.specs.declared.disk.DiskError.{DiskError}
use Rattle.rec_disk.specs.Disks.{Files, AreSame, with_file, CountsFailure}

-- the files by their paths, the count of faults, the calls made so far, and the calls that fail
pub record MemoryDiskState : Type 0 where
  pub files : List (List ℕ × List ℕ)
  pub faults : ℕ
  pub calls : ℕ
  pub fail_at : List ℕ

-- files of the map, by their bytes
abbrev pub files_of : List (String Global × Vec ℕ Global) → List (List ℕ × List ℕ)
files_of entries = map (λ e. (string_bytes e.0, e.1.items)) entries

-- what stands at a path
abbrev pub file_at : List (List ℕ × List ℕ) → Files
file_at files path = lookup (bytes_eq path) files

-- the files are those with this one at the path, or with none there
abbrev pub HasFile : List (List ℕ × List ℕ) → List (List ℕ × List ℕ) → List ℕ → Option (List ℕ)
    → Type 0
HasFile old new path file = AreSame (with_file (file_at old) path file) (file_at new)

-- what follows a path in that of a file there or below: nothing, or a slash first
abbrev pub begins_below : List ℕ → Bool
begins_below [] = true
begins_below (b ∷ bs) = b == 47

-- whether a file lies at the path or below it
abbrev pub lies_at : List ℕ → List ℕ → Bool
lies_at path file =
    bytes_eq (take (length path) file) path && begins_below (drop (length path) file)

-- why a file in memory was not changed: it is missing, or memory ran out
abbrev pub IsRefusal : Option (List ℕ) → DiskError → Type 0
IsRefusal file Missing = file ≡ None
IsRefusal file DiskFailed = ⊥
IsRefusal file OutOfMemory = Unit {0}

-- a piece was put after a file, or all files are as they were
abbrev pub Extends : List (List ℕ × List ℕ) → List (List ℕ × List ℕ) → List ℕ → Option (List ℕ)
    → List ℕ → Result (Unit {0}) DiskError → Type 0
Extends old new path None piece (Ok x) = ⊥
Extends old new path (Some bytes) piece (Ok x) = HasFile old new path (Some (bytes ++ piece))
Extends old new path file piece (Err e) = IsRefusal file e × AreSame (file_at old) (file_at new)

-- the disk failed exactly where the call is one that fails
abbrev pub FailsAt : {T : Type 0} → List ℕ → ℕ → Result T DiskError → Type 0
FailsAt fail_at call (Ok x) = Contains fail_at call → ⊥
FailsAt fail_at call (Err DiskFailed) = Contains fail_at call
FailsAt fail_at call (Err Missing) = Contains fail_at call → ⊥
FailsAt fail_at call (Err OutOfMemory) = Contains fail_at call → ⊥

-- a call took the next number, and failed exactly where that number is listed
pub record IsCall {T : Type 0} (old new : MemoryDiskState)
    (result : Result T DiskError) : Type 0 where
  pub numbered : new.calls ≡ next_count old.calls
  pub fail_at : new.fail_at ≡ old.fail_at
  pub failed : FailsAt old.fail_at new.calls result
  pub counted : CountsFailure old.faults new.faults result
