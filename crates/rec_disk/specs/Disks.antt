-- What a disk's calls answer, and what they do to its files.
use Rattle.std.specs.Prelude.{◌≡◌, ℕ, ◌<◌, ◌≤◌, List, [], ◌∷◌, ◌++◌, length, take}
use Rattle.std.specs.Prelude.{drop, Bool, Option, Some, None, is_some, IsTrue}
use Rattle.std.specs.Prelude.{◌↔◌, ◌⊎◌, if◌then◌else◌, Result, Ok, Err, IfErr}
use Rattle.std.specs.Str.{bytes_eq}
use Rattle.rec_container.specs.Causes.{Rose, next_count}
use Rattle.rec_disk.specs.declared.disk.DiskError.TheVariants.{Missing, DiskFailed, OutOfMemory}
use Rattle.rec_disk.specs.declared.disk.DiskError.{DiskError}

-- what stands at each path
abbrev pub Files : Type 0
Files = List ℕ → Option (List ℕ)

-- the files with this one at the path, or with none there
abbrev pub with_file : Files → List ℕ → Option (List ℕ) → Files
with_file fs path file = λ p. if bytes_eq p path then file else fs p

-- the same files
abbrev pub AreSame : Files → Files → Type 0
AreSame fs gs = (path : List ℕ) → gs path ≡ fs path

-- a file lies at the path, or below it
abbrev pub IsThere : Files → List ℕ → Type 0
IsThere fs path =
    IsTrue (is_some (fs path)) ⊎ ((rest : List ℕ) × IsTrue (is_some (fs (path ++ 47 ∷ rest))))

-- ---- errors

-- a fault of the disk comes only where its count rose
abbrev pub IsCaused : ℕ → ℕ → DiskError → Type 0
IsCaused before now DiskFailed = Rose before now
IsCaused before now Missing = Unit {0}
IsCaused before now OutOfMemory = Unit {0}

-- the count has not fallen, and a fault comes only by it
pub record HasDiskCause {T : Type 0} (before now : ℕ) (result : Result T DiskError) : Type 0 where
  pub later : before ≤ now
  pub failed : IfErr result (IsCaused before now)

-- a failure was counted once, and nothing else
abbrev pub CountsFailure : {T : Type 0} → ℕ → ℕ → Result T DiskError → Type 0
CountsFailure before now (Ok x) = now ≡ before
CountsFailure before now (Err DiskFailed) = now ≡ next_count before
CountsFailure before now (Err Missing) = now ≡ before
CountsFailure before now (Err OutOfMemory) = now ≡ before

-- the error is another one than that the file is missing
abbrev pub NotMissing : DiskError → Type 0
NotMissing Missing = ⊥
NotMissing DiskFailed = Unit {0}
NotMissing OutOfMemory = Unit {0}

-- an error where this file is there, or none is
abbrev pub Refuses : Option (List ℕ) → DiskError → Type 0
Refuses None e = Unit {0}
Refuses (Some bytes) e = NotMissing e

-- ---- what the calls do where the files are known

abbrev pub ExistsIn : Files → List ℕ → Result Bool DiskError → Type 0
ExistsIn fs path (Ok b) = IsTrue b ↔ IsThere fs path
ExistsIn fs path (Err e) = NotMissing e

abbrev pub HasLength : Option (List ℕ) → Result ℕ DiskError → Type 0
HasLength None (Ok n) = ⊥
HasLength (Some bytes) (Ok n) = n ≡ length bytes
HasLength file (Err e) = Refuses file e

-- the prefix of the buffer has what the file has from the place on;
-- nothing only at the file's end, or without room
abbrev pub ReadsBytes : Option (List ℕ) → ℕ → Result ℕ DiskError → List ℕ → Type 0
ReadsBytes None at (Ok n) buf = ⊥
ReadsBytes (Some bytes) at (Ok n) buf =
    (n ≤ length (drop at bytes)) × (take n buf ≡ take n (drop at bytes))
    × (0 < length buf → at < length bytes → 0 < n)
ReadsBytes file at (Err e) buf = Refuses file e

abbrev pub CreatesIn : Files → Files → List ℕ → Result (Unit {0}) DiskError → Type 0
CreatesIn fs gs path (Ok x) = AreSame (with_file fs path (Some [])) gs
CreatesIn fs gs path (Err e) = NotMissing e × AreSame fs gs

abbrev pub AppendsBytes : Files → Files → List ℕ → Option (List ℕ) → List ℕ → Result ℕ DiskError
    → Type 0
AppendsBytes fs gs path None piece (Ok n) = ⊥
AppendsBytes fs gs path (Some bytes) piece (Ok n) =
    AreSame (with_file fs path (Some (bytes ++ take n piece))) gs
AppendsBytes fs gs path file piece (Err e) = Refuses file e × AreSame fs gs

-- the file goes from one path to another, which may be the same
abbrev pub renamed : Files → List ℕ → List ℕ → Option (List ℕ) → Files
renamed fs from to file = with_file (with_file fs from None) to file

abbrev pub RenamesFile : Files → Files → List ℕ → List ℕ → Option (List ℕ)
    → Result (Unit {0}) DiskError → Type 0
RenamesFile fs gs from to None (Ok x) = ⊥
RenamesFile fs gs from to (Some bytes) (Ok x) = AreSame (renamed fs from to (Some bytes)) gs
RenamesFile fs gs from to file (Err e) = Refuses file e × AreSame fs gs

-- ---- the same of any disk, which may not say its files

-- files that are known before and after, or never
abbrev pub BothKnown : Option Files → Option Files → (Files → Files → Type 0) → Type 0
BothKnown None new P = new ≡ None
BothKnown (Some fs) None P = ⊥
BothKnown (Some fs) (Some gs) P = P fs gs

abbrev pub Exists : Option Files → List ℕ → Result Bool DiskError → Type 0
Exists None path r = IfErr r NotMissing
Exists (Some fs) path r = ExistsIn fs path r

abbrev pub IsLength : Option Files → List ℕ → Result ℕ DiskError → Type 0
IsLength None path r = Unit {0}
IsLength (Some fs) path r = HasLength (fs path) r

abbrev pub ReadsAt : Option Files → List ℕ → ℕ → Result ℕ DiskError → List ℕ → Type 0
ReadsAt None path at r buf = Unit {0}
ReadsAt (Some fs) path at r buf = ReadsBytes (fs path) at r buf

abbrev pub Creates : Option Files → Option Files → List ℕ → Result (Unit {0}) DiskError → Type 0
Creates old new path r = BothKnown old new (λ fs gs. CreatesIn fs gs path r)

abbrev pub AppendsTo : Option Files → Option Files → List ℕ → List ℕ → Result ℕ DiskError → Type 0
AppendsTo old new path piece r =
    BothKnown old new (λ fs gs. AppendsBytes fs gs path (fs path) piece r)

abbrev pub Renames : Option Files → Option Files → List ℕ → List ℕ → Result (Unit {0}) DiskError
    → Type 0
Renames old new from to r = BothKnown old new (λ fs gs. RenamesFile fs gs from to (fs from) r)
