-- What is written of a bundle that is upgraded, or why it isn't upgraded.
use Rattle.std.specs.List.{flat_map}
use Rattle.std.specs.Option.{option_or}
use Rattle.std.specs.Prelude.{suc, ◌≡◌, ◌==◌, ◌&&◌, ◌^◌, ℕ, nat_lt, Bool, List, [], ◌∷◌, length}
use Rattle.std.specs.Prelude.{Option, Some, None, option_map, Result, Ok, Err, ◌⊎◌, if◌then◌else◌}
use Rattle.std.specs.Str.{bytes_eq}
use Rattle.rec_container.specs.Container.{Entry, content_of, IsContainer}
use Rattle.rec_container.specs.Reading.{◌>>=◌}
use Rattle.rec_container.specs.Writing.{entry_named}
use Rattle.rec_format.specs.declared.manifest.PortableManifest.{PortableManifest}
use Rattle.rec_store.specs.declared.read_error.RecordReadError.TheVariants as read
use Rattle.rec_store.specs.declared.read_error.RecordReadError.{RecordReadError}
use Rattle.rec_store.specs.declared.sizes_judged.TooLarge.{TooLarge}
use Rattle.rec_store.specs.Entries.{log_name, manifest_name, store_name}
use Rattle.rec_store.specs.JudgedParts.{first_unnamed, parts_judged}
use Rattle.rec_store.specs.Kept.{event_paths}
use Rattle.rec_store.specs.RunParts.{RunParts, written, written_log}
use Rattle.rec_store.specs.RunParts.{written_manifest, written_store}
use Rattle.rec_store.specs.SizesJudged.{first_too_large}
use Rattle.rec_portable.specs.declared.errors.PortableRecordingReadError.TheVariants as opens
use Rattle.rec_portable.specs.declared.errors.PortableRecordingReadError.{
  PortableRecordingReadError,
}
use Rattle.rec_portable.specs.declared.upgrade_error.UpgradeError.TheVariants.{
  Open,
  ForeignEntry,
  Read,
  CountOutOfRange,
  FileTooLarge,
  OutOfMemory,
}
use Rattle.rec_portable.specs.declared.upgrade_error.UpgradeError.{UpgradeError}
use Rattle.rec_portable.specs.Judging.{judged, IsNoContainer}
use Rattle.rec_portable.specs.OuterEntries.{log_part, IsStoreRefused}

-- ---- errors of what is read

abbrev pub open_error : PortableRecordingReadError → UpgradeError
open_error opens.OutOfMemory = OutOfMemory
open_error e = Open e

abbrev pub read_error : RecordReadError → UpgradeError
read_error read.OutOfMemory = OutOfMemory
read_error e = Read e

abbrev pub size_error : TooLarge → UpgradeError
size_error t = FileTooLarge t.file_name t.size t.limit

-- ---- the judgements, in their order

-- the names of a bundle's entries, by their places
abbrev pub is_in_place : ℕ → List ℕ → Bool
is_in_place i name =
    if i == 0 then bytes_eq name manifest_name else if i == 1 then bytes_eq name log_name
    else (i == 2 && bytes_eq name store_name)

-- the first entry from an index on that isn't the one of its place
abbrev pub first_foreign : ℕ → List Entry → Option (List ℕ)
first_foreign i [] = None
first_foreign i (e ∷ es) = if is_in_place i e.name then first_foreign (suc i) es else Some e.name

abbrev pub none_foreign : Option (List ℕ) → Result (Unit {0}) UpgradeError
none_foreign None = Ok tt
none_foreign (Some name) = Err (ForeignEntry name)

-- a bundle has these three entries, in this order, and no other
abbrev pub names_judged : List Entry → Result (Unit {0}) UpgradeError
names_judged es = none_foreign (first_foreign 0 es)

abbrev pub or_read_error : {T : Type 0} → Result T RecordReadError → Result T UpgradeError
or_read_error (Ok x) = Ok x
or_read_error (Err e) = Err (Read e)

-- the first entry that is longer than the limit
abbrev pub entries_refusal : ℕ → List Entry → Option UpgradeError
entries_refusal limit es = option_map size_error (first_too_large limit es)

abbrev pub length_refusal : List ℕ → Option UpgradeError
length_refusal bundle = if nat_lt (length bundle) (2 ^ 64) then None else Some CountOutOfRange

-- the length of what is to be written is no u64, or a reader with the limit doesn't take the
-- manifest, the log or an entry of the store
abbrev pub written_refusal : ℕ → RunParts → Option UpgradeError
written_refusal limit p =
    option_or (length_refusal (written p))
    (entries_refusal limit (entry_named manifest_name (written_manifest p)
    ∷ entry_named log_name (written_log p) ∷ written_store p))

abbrev pub unless : {T : Type 0} → Option UpgradeError → T → Result T UpgradeError
unless None x = Ok x
unless (Some e) x = Err e

-- the parts of a run with this manifest, this log and this store, or their first refusal
abbrev pub run_judged : ℕ → PortableManifest → List ℕ → List Entry → Result RunParts UpgradeError
run_judged limit m log es = do
  p ← or_read_error (parts_judged limit m log es)
  _ ← none_foreign (first_unnamed (flat_map event_paths p.events) es)
  unless (written_refusal limit p) p

-- ---- a bundle that is upgraded

-- the bytes are a bundle with a log and a store that are opened
pub record IsOpened (bytes : List ℕ) (limit : ℕ) : Type 0 where
  pub outer : List Entry
  pub spelled : IsContainer bytes outer
  pub manifest : PortableManifest
  pub is_judged : judged limit outer ≡ Ok manifest
  pub log : List ℕ
  pub log_read : log_part limit outer ≡ Ok log
  pub store : List ℕ
  pub store_found : content_of outer store_name ≡ Some store
  pub entries : List Entry
  pub stored : IsContainer store entries

-- the parts of what is opened, or its first refusal
abbrev pub upgrade_judged : (bytes : List ℕ) (limit : ℕ) → IsOpened bytes limit
    → Result RunParts UpgradeError
upgrade_judged bytes limit o = do
  _ ← names_judged o.outer
  run_judged limit o.manifest o.log o.entries

-- the manifest of a bundle is refused, then its log, or then its store
abbrev pub IsPartRefused : ℕ → List Entry → PortableRecordingReadError → Type 0
IsPartRefused limit outer e =
    (judged limit outer ≡ Err e)
    ⊎ ((m : PortableManifest) × (judged limit outer ≡ Ok m) × (log_part limit outer ≡ Err e))
    ⊎ ((m : PortableManifest) × (log : List ℕ) × (judged limit outer ≡ Ok m)
    × (log_part limit outer ≡ Ok log) × IsStoreRefused (content_of outer store_name) e)

-- the bundle isn't opened: its bytes are no container, or one of its parts is refused
abbrev pub IsUnopened : List ℕ → ℕ → PortableRecordingReadError → Type 0
IsUnopened bytes limit e =
    IsNoContainer bytes e
    ⊎ ((outer : List Entry) × IsContainer bytes outer × IsPartRefused limit outer e)

-- the bytes are those of a bundle with these parts, and nothing of it is refused
abbrev pub IsAccepted : List ℕ → ℕ → RunParts → Type 0
IsAccepted bytes limit p = (o : IsOpened bytes limit) × (upgrade_judged bytes limit o ≡ Ok p)

-- the first refusal of the bytes
abbrev pub IsRefused : List ℕ → ℕ → UpgradeError → Type 0
IsRefused bytes limit e =
    ((x : PortableRecordingReadError) × (e ≡ open_error x) × IsUnopened bytes limit x)
    ⊎ ((o : IsOpened bytes limit) × (upgrade_judged bytes limit o ≡ Err e))
