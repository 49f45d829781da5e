-- The entries of a bundle: its log, its store, and any other.
use Rattle.std.specs.Io.KnownBytes.{Appends}
use Rattle.std.specs.Prelude.{◌≡◌, ◌⊎◌, ◌≤◌, IfErr, Bool, ◌&&◌, ℕ, nat_lt, List, length}
use Rattle.std.specs.Prelude.{Option, Some, None, Result, Ok, Err, if◌then◌else◌}
use Rattle.rec_container.specs.Causes.{Rose}
use Rattle.rec_container.specs.Container.{Entry, content_of, IsContainer}
use Rattle.rec_container.specs.Taking.{TookPart}
use Rattle.rec_store.specs.Entries.{log_name, store_name}
use Rattle.rec_portable.specs.declared.errors.PortableRecordingReadError.TheVariants.{
  MissingFile,
  ExtractFile,
  OutOfMemory,
}
use Rattle.rec_portable.specs.declared.errors.PortableRecordingReadError.{
  PortableRecordingReadError,
}
use Rattle.rec_portable.specs.declared.extraction.ExtractOuterFileResult.{ExtractOuterFileResult}
use Rattle.rec_portable.specs.Judging.{IsNoContainer, within}
use Rattle.rec_portable.specs.Stores.{StoreReading}

-- the log that was found, as far as the limit allows
abbrev pub log_found : ℕ → Option (List ℕ) → Result (List ℕ) PortableRecordingReadError
log_found limit None = Err (MissingFile log_name)
log_found limit (Some content) = within limit log_name content

-- the log of a bundle
abbrev pub log_part : ℕ → List Entry → Result (List ℕ) PortableRecordingReadError
log_part limit es = log_found limit (content_of es log_name)

-- the store is missing, or it is no container and this is its first fault
abbrev pub IsStoreRefused : Option (List ℕ) → PortableRecordingReadError → Type 0
IsStoreRefused None e = e ≡ MissingFile store_name
IsStoreRefused (Some bytes) e = IsNoContainer bytes e

-- the reader has the entries of the store that was found; or memory ran out, or it is refused
abbrev pub OpensStore : ℕ → Option (List ℕ) → Result StoreReading PortableRecordingReadError
    → Type 0
OpensStore limit None (Ok r) = ⊥
OpensStore limit (Some bytes) (Ok r) = (r.limit ≡ limit) × IsContainer bytes r.entries
OpensStore limit found (Err e) = (e ≡ OutOfMemory) ⊎ IsStoreRefused found e

-- the size, where the limit is to be checked and is passed
abbrev pub exceeded_limit : Bool → ℕ → ℕ → Option ℕ
exceeded_limit check limit size = if check && nat_lt limit size then Some size else None

-- an entry was written whole, or why not
abbrev pub ExtractsOuter : Option (List ℕ) → Option (List ℕ) → ℕ → Bool → List ℕ → Option (List ℕ)
    → Result ExtractOuterFileResult PortableRecordingReadError → Type 0
ExtractsOuter before now limit check name None (Ok r) = ⊥
ExtractsOuter before now limit check name (Some content) (Ok r) =
    (r.bytes_written ≡ length content)
    × (r.exceeded_limit ≡ exceeded_limit check limit (length content)) × Appends before now content
ExtractsOuter before now limit check name None (Err (MissingFile n)) = (n ≡ name) × (now ≡ before)
ExtractsOuter before now limit check name (Some content) (Err (ExtractFile n)) =
    (n ≡ name) × TookPart before now content
ExtractsOuter before now limit check name found (Err OutOfMemory) = now ≡ before
ExtractsOuter before now limit check name found (Err e) = ⊥

-- that a sink failed comes only by its count
abbrev pub IsOuterCaused : ℕ → ℕ → PortableRecordingReadError → Type 0
IsOuterCaused before now (ExtractFile n) = Rose before now
IsOuterCaused before now e = Unit {0}

-- the count has not fallen, and a fault comes only by it
pub record OuterCause {T : Type 0} (before now : ℕ)
    (result : Result T PortableRecordingReadError) : Type 0 where
  pub later : before ≤ now
  pub failed : IfErr result (IsOuterCaused before now)
