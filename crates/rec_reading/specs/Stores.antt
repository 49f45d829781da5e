-- The entries that bytes spell, or their first fault, as a function.
use Rattle.std.specs.Prelude.{ℕ, zero, suc, List, [], ◌∷◌, ◌++◌, length, drop}
use Rattle.std.specs.Prelude.{if◌then◌else◌, Option, Some, None, Result, Ok, Err}
use Rattle.rec_container.specs.Container.{Entry, content_of, magic, place_after}
use Rattle.rec_container.specs.declared.errors.ContainerError.TheVariants.{BadMagic, Truncated}
use Rattle.rec_container.specs.declared.errors.ContainerError.{ContainerError}
use Rattle.rec_container.specs.Reading.{◌>>=◌, has_magic, step_at}
use Rattle.rec_store.specs.Entries.{store_name}
use Rattle.rec_portable.specs.declared.errors.PortableRecordingReadError.TheVariants.{
  MissingFile,
  ReadArchive,
}
use Rattle.rec_portable.specs.declared.errors.PortableRecordingReadError.{
  PortableRecordingReadError,
}

-- the entries seen where the end stands, or else what is read after one more
abbrev pub entries_after : (List Entry → List ℕ → Result (List Entry) ContainerError) → List Entry
    → Option (Entry × List ℕ) → Result (List Entry) ContainerError
entries_after read seen None = Ok seen
entries_after read seen (Some step) = read (seen ++ step.0 ∷ []) step.1

-- the entries of what follows those seen, in at most so many steps
abbrev pub entries_from : ℕ → List Entry → List ℕ → Result (List Entry) ContainerError
entries_from zero seen bytes = Err (Truncated (place_after seen))
entries_from (suc steps) seen bytes =
    step_at (place_after seen) seen bytes >>= entries_after (entries_from steps) seen

-- the entries that the bytes spell, or their first fault; each step takes a byte
unfoldable pub entries_of : List ℕ → Result (List Entry) ContainerError
entries_of bytes =
    if has_magic bytes then entries_from (length bytes) [] (drop (length magic) bytes)
    else Err BadMagic

-- a bundle's store, or why it isn't read
abbrev pub archive_read : Result (List Entry) ContainerError
    → Result (List Entry) PortableRecordingReadError
archive_read (Ok es) = Ok es
archive_read (Err fault) = Err (ReadArchive fault)

abbrev pub store_found : Option (List ℕ) → Result (List Entry) PortableRecordingReadError
store_found None = Err (MissingFile store_name)
store_found (Some bytes) = archive_read (entries_of bytes)

abbrev pub store_part : List Entry → Result (List Entry) PortableRecordingReadError
store_part es = store_found (content_of es store_name)
