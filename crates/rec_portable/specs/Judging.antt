-- How a bundle is judged.
use Rattle.std.specs.List.{ends_with}
use Rattle.std.specs.Prelude.{◌≡◌, ℕ, nat_eq, nat_lt, Bool, not, ◌&&◌, ◌||◌, List, [], ◌∷◌, length}
use Rattle.std.specs.Prelude.{count_by, if◌then◌else◌, Option, Some, None, Result, Ok, Err, ◌⊎◌}
use Rattle.rec_container.specs.Container.{Entry, content_of, IsContainer}
use Rattle.rec_container.specs.declared.errors.ContainerError.{ContainerError}
use Rattle.rec_container.specs.Reading.{IsFault, ◌>>=◌}
use Rattle.rec_forms.specs.TextForm.{bytes_form}
use Rattle.rec_format.specs.declared.incompatibility.PortableRecordingVersionIncompatibility.{
  PortableRecordingVersionIncompatibility,
}
use Rattle.rec_format.specs.declared.incompatibility.StoreVersionIncompatibility.{
  StoreVersionIncompatibility,
}
use Rattle.rec_format.specs.declared.manifest.PortableManifest.{PortableManifest}
use Rattle.rec_format.specs.declared.versions.PortableRecordingFormatVersion.{
  PortableRecordingFormatVersion,
}
use Rattle.rec_format.specs.declared.versions.StoreFormatVersion.{StoreFormatVersion}
use Rattle.rec_format.specs.Paths.{is_zip_path}
use Rattle.rec_format.specs.RunForms.{manifest_form}
use Rattle.rec_format.specs.Runs.{store_version_in}
use Rattle.rec_format.specs.Versions.{portable_readable, portable_version}
use Rattle.rec_format.specs.Versions.{store_readable, store_version}
use Rattle.rec_store.specs.Entries.{manifest_name}
use Rattle.rec_portable.specs.declared.errors.PortableRecordingReadError.TheVariants.{
  ReadArchive,
  NotAWrapperArchive,
  FileTooLarge,
  ParseManifest,
  UnsupportedFormatVersion,
  UnsupportedStoreFormatVersion,
  OutOfMemory,
}
use Rattle.rec_portable.specs.declared.errors.PortableRecordingReadError.{
  PortableRecordingReadError,
}

-- a name that ends in a slash or a backslash is no file's
abbrev pub is_file : List ℕ → Bool
is_file name = not (ends_with nat_eq name (47 ∷ []) || ends_with nat_eq name (92 ∷ []))

-- how many entries are files
abbrev pub file_count : List Entry → ℕ
file_count es = count_by (λ e. is_file e.name) es

-- how many of them have a zip extension
abbrev pub zip_count : List Entry → ℕ
zip_count es = count_by (λ e. is_file e.name && is_zip_path e.name) es

-- the content that was found, or how many files stand in its place
abbrev pub manifest_found : List Entry → Option (List ℕ)
    → Result (List ℕ) PortableRecordingReadError
manifest_found es None = Err (NotAWrapperArchive (file_count es) (zip_count es))
manifest_found es (Some content) = Ok content

-- the content of an entry, unless it is longer than the limit
abbrev pub within : ℕ → List ℕ → List ℕ → Result (List ℕ) PortableRecordingReadError
within limit name content =
    if nat_lt limit (length content) then Err (FileTooLarge name (length content) limit)
    else Ok content

-- the manifest that was read
abbrev pub manifest_read : Option PortableManifest
    → Result PortableManifest PortableRecordingReadError
manifest_read None = Err ParseManifest
manifest_read (Some m) = Ok m

-- the refusal of a bundle's version, if it isn't read
abbrev pub format_judged : PortableRecordingFormatVersion
    → Result (Unit {0}) PortableRecordingVersionIncompatibility
    → Result (Unit {0}) PortableRecordingReadError
format_judged found (Ok x) = Ok x
format_judged found (Err e) = Err (UnsupportedFormatVersion found portable_version e)

abbrev pub format_checked : PortableRecordingFormatVersion
    → Result (Unit {0}) PortableRecordingReadError
format_checked found = format_judged found (portable_readable found portable_version)

-- the same of its store's version
abbrev pub store_judged : StoreFormatVersion → Result (Unit {0}) StoreVersionIncompatibility
    → Result (Unit {0}) PortableRecordingReadError
store_judged found (Ok x) = Ok x
store_judged found (Err e) = Err (UnsupportedStoreFormatVersion found store_version e)

abbrev pub store_checked : StoreFormatVersion → Result (Unit {0}) PortableRecordingReadError
store_checked found = store_judged found (store_readable found store_version)

-- a manifest whose versions are read
abbrev pub versions_checked : PortableManifest → Result PortableManifest PortableRecordingReadError
versions_checked m = do
  _ ← format_checked m.format_version
  _ ← store_checked (store_version_in m.run)
  Ok m

-- the manifest that bytes are
abbrev pub content_judged : List ℕ → Result PortableManifest PortableRecordingReadError
content_judged content = do
  m ← manifest_read (bytes_form manifest_form content)
  versions_checked m

-- the first refusal that a bundle's entries give, or else the manifest
abbrev pub judged : ℕ → List Entry → Result PortableManifest PortableRecordingReadError
judged limit es = do
  found ← manifest_found es (content_of es manifest_name)
  content ← within limit manifest_name found
  content_judged content

-- the same of a bundle's bytes, which are a container
abbrev pub IsJudged : List ℕ → ℕ → Result PortableManifest PortableRecordingReadError → Type 0
IsJudged bytes limit r = (es : List Entry) × IsContainer bytes es × (judged limit es ≡ r)

-- the bytes are no container, and this is their first fault
abbrev pub IsNoContainer : List ℕ → PortableRecordingReadError → Type 0
IsNoContainer bytes e = (fault : ContainerError) × (e ≡ ReadArchive fault) × IsFault bytes fault

-- want of memory, which is free, or the refusal of the bytes
abbrev pub Refuses : List ℕ → ℕ → PortableRecordingReadError → Type 0
Refuses bytes limit e = (e ≡ OutOfMemory) ⊎ (IsNoContainer bytes e ⊎ IsJudged bytes limit (Err e))
