-- A bundle that was read.
use Rattle.std.specs.Prelude.{◌≡◌, ℕ, List, Option, Ok, ◌⊎◌}
use Rattle.rec_container.specs.Container.{Entry, content_of, IsContainer}
use Rattle.rec_container.specs.declared.within.ReadError.{ReadError}
use Rattle.rec_container.specs.Within.{Gave, Unread}
use Rattle.rec_format.specs.declared.manifest.PortableManifest.{PortableManifest}
use Rattle.rec_store.specs.Entries.{log_name, store_name}
use Rattle.rec_portable.specs.declared.errors.PortableRecordingReadError.{
  PortableRecordingReadError,
}
use Rattle.rec_portable.specs.declared.parts.BundleParts.{BundleParts}
use Rattle.rec_portable.specs.Errors.{source_error}
use Rattle.rec_portable.specs.Judging.{judged, IsJudged, Refuses}
use Rattle.rec_portable.specs.Windows.{IsWindowOf}

-- where it is from, all its bytes, and the most bytes of an entry that is read
pub record Opening : Type 0 where
  pub path : List ℕ
  pub bytes : List ℕ
  pub limit : ℕ

-- the bytes are a bundle, and these are its parts
pub record IsOpen (bytes : List ℕ) (limit : ℕ) (parts : BundleParts) : Type 0 where
  pub entries : List Entry
  pub spelled : IsContainer bytes entries
  pub judged : judged limit entries ≡ Ok parts.manifest
  pub log : IsWindowOf bytes (content_of entries log_name) parts.log
  pub store : IsWindowOf bytes (content_of entries store_name) parts.store

module _ {S : Type 0} (left : S → Option (List ℕ)) (faults : S → ℕ) where
  -- the source was read to its end, and all its bytes are a bundle
  pub record Opens (path : List ℕ) (spool limit : ℕ) (old new : S) (r : Opening) : Type 0 where
    pub path_is : r.path ≡ path
    pub limit_is : r.limit ≡ limit
    pub gave : Gave left faults spool old new r.bytes
    pub manifest : PortableManifest
    pub judged : IsJudged r.bytes limit (Ok manifest)

  -- the source wasn't read to its end, or it was, and all its bytes are refused
  abbrev pub Unopened : ℕ → ℕ → S → S → PortableRecordingReadError → Type 0
  Unopened spool limit old new e =
      ((r : ReadError) × (e ≡ source_error r) × Unread left faults spool old new r)
      ⊎ ((bytes : List ℕ) × Gave left faults spool old new bytes × Refuses bytes limit e)
