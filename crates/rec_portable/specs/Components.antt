-- The parts of a bundle as components of what it is read as.
use Rattle.std.specs.Prelude.{◌≡◌, ℕ, List, Some, Ok}
use Rattle.rec_container.specs.Container.{Entry, content_of, IsContainer}
use Rattle.rec_format.specs.declared.manifest.PortableManifest.{PortableManifest}
use Rattle.rec_format.specs.Runs.{info_of}
use Rattle.rec_store.specs.Entries.{manifest_name, store_name}
use Rattle.rec_store.specs.Parts.{ArePartsOf}
use Rattle.rec_store.specs.Reading.{RunRecord}
use Rattle.rec_portable.specs.Judging.{judged, versions_checked}
use Rattle.rec_portable.specs.OuterEntries.{log_part}

-- The manifest has the version and the run information of the record, and is refused only for a
-- version that isn't read. The log and the store are there;
-- what they give is the rest of the record.
pub record AreComponents (bytes : List ℕ) (limit : ℕ) (r : RunRecord) : Type 0 where
  pub entries : List Entry
  pub spelled : IsContainer bytes entries
  pub manifest : PortableManifest
  pub opened : judged limit entries ≡ versions_checked manifest
  pub format_version : manifest.format_version ≡ r.format_version
  pub run : info_of manifest.run ≡ r.run
  pub text : List ℕ
  pub text_found : content_of entries manifest_name ≡ Some text
  pub log : List ℕ
  pub log_read : log_part limit entries ≡ Ok log
  pub store : List ℕ
  pub store_found : content_of entries store_name ≡ Some store
  pub stored : List Entry
  pub store_opened : IsContainer store stored
  pub parts : ArePartsOf text log stored limit r
