-- What is read of a file.
use Rattle.std.specs.Prelude.{◌≡◌, ℕ, List, [], length, take, Option, Some, None}
use Rattle.rec_disk.specs.declared.disk.DiskError.{DiskError}
use Rattle.rec_disk.specs.Disks.{Files, Refuses}

-- as many bytes as these stand at the start of the file; of a file that isn't there none are read
abbrev pub IsStartOf : Option (List ℕ) → List ℕ → Type 0
IsStartOf None bytes = bytes ≡ []
IsStartOf (Some content) bytes = bytes ≡ take (length bytes) content

-- the bytes up to a length, or all where the file has fewer
abbrev pub IsPrefixOf : Option (List ℕ) → ℕ → List ℕ → Type 0
IsPrefixOf None len bytes = (len ≡ 0) × (bytes ≡ [])
IsPrefixOf (Some content) len bytes = bytes ≡ take len content

-- all bytes of a file that is there
abbrev pub IsWholeOf : Option (List ℕ) → List ℕ → Type 0
IsWholeOf None bytes = ⊥
IsWholeOf (Some content) bytes = bytes ≡ content

-- ---- the same of any disk, which may not say its files

abbrev pub IsStart : Option Files → List ℕ → List ℕ → Type 0
IsStart None path bytes = Unit {0}
IsStart (Some fs) path bytes = IsStartOf (fs path) bytes

abbrev pub IsPrefix : Option Files → List ℕ → ℕ → List ℕ → Type 0
IsPrefix None path len bytes = Unit {0}
IsPrefix (Some fs) path len bytes = IsPrefixOf (fs path) len bytes

abbrev pub IsWhole : Option Files → List ℕ → List ℕ → Type 0
IsWhole None path bytes = Unit {0}
IsWhole (Some fs) path bytes = IsWholeOf (fs path) bytes

-- no file stands at the path
abbrev pub IsMissing : Option Files → List ℕ → Type 0
IsMissing None path = Unit {0}
IsMissing (Some fs) path = fs path ≡ None

-- why a file wasn't read: it is said to be missing only where it is
abbrev pub IsUnread : Option Files → List ℕ → DiskError → Type 0
IsUnread None path e = Unit {0}
IsUnread (Some fs) path e = Refuses (fs path) e
