-- A file that is written under a temporary path, and then takes the place of another.
use Rattle.std.specs.Prelude.{ℕ, ◌⊎◌, List, take, Option, Some, Result, Ok, Err}
use Rattle.rec_disk.specs.declared.disk.DiskError.{DiskError}
use Rattle.rec_disk.specs.Disks.{AreSame, BothKnown, Files, NotMissing, renamed, with_file}

-- the same files, but for this one at the path
abbrev pub IsPut : Files → Files → List ℕ → List ℕ → Type 0
IsPut fs gs path content = AreSame (with_file fs path (Some content)) gs

-- the same files, but that the one at the path may be a prefix of this
abbrev pub IsBegun : Files → Files → List ℕ → List ℕ → Type 0
IsBegun fs gs path content = AreSame fs gs ⊎ ((n : ℕ) × IsPut fs gs path (take n content))

abbrev pub WritesFile : Files → Files → List ℕ → List ℕ → Result (Unit {0}) DiskError → Type 0
WritesFile fs gs path content (Ok x) = IsPut fs gs path content
WritesFile fs gs path content (Err e) = NotMissing e × IsBegun fs gs path content

abbrev pub ReplacesFile : Files → Files → List ℕ → List ℕ → List ℕ → Result (Unit {0}) DiskError
    → Type 0
ReplacesFile fs gs temporary path content (Ok x) =
    AreSame (renamed fs temporary path (Some content)) gs
ReplacesFile fs gs temporary path content (Err e) = NotMissing e × IsBegun fs gs temporary content

-- ---- the same of any disk, which may not say its files

abbrev pub Writes : Option Files → Option Files → List ℕ → List ℕ → Result (Unit {0}) DiskError
    → Type 0
Writes old new path content r = BothKnown old new (λ fs gs. WritesFile fs gs path content r)

abbrev pub Replaces : Option Files → Option Files → List ℕ → List ℕ → List ℕ
    → Result (Unit {0}) DiskError → Type 0
Replaces old new temporary path content r =
    BothKnown old new (λ fs gs. ReplacesFile fs gs temporary path content r)
