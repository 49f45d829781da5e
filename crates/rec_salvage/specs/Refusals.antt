-- Why nothing is salvaged of a store: the metadata is judged part by part,
-- in the order in which it is recorded.
use Rattle.std.specs.Option.{option_or}
use Rattle.std.specs.Prelude.{◌≡◌, ◌⊎◌, ℕ, Bool, false, List, Option, Some}
use Rattle.std.specs.Prelude.{None, is_some, Result, Ok, Err, ⊤, if◌then◌else◌}
use Rattle.std.specs.Str.{is_utf8}
use Rattle.serde_json.specs.Data.{Data}
use Rattle.rec_container.specs.Container.{Entry, content_of}
use Rattle.rec_container.specs.Reading.{has_magic}
use Rattle.rec_container.specs.WholePrefixes.{IsWholePrefix}
use Rattle.rec_forms.specs.Recording.{test_list_form, record_opts_form}
use Rattle.rec_forms.specs.TextForm.{bytes_form}
use Rattle.rec_format.specs.RerunForms.{rerun_info_form}
use Rattle.rec_format.specs.ScopeForms.{recorded_scope_form}
use Rattle.rec_store.specs.Entries.{build_scope_path, cargo_metadata_path}
use Rattle.rec_store.specs.Entries.{record_opts_path, rerun_info_path, test_list_path}
use Rattle.rec_salvage.specs.declared.errors.SalvageError.TheVariants.{
  BadMagic,
  MissingMeta,
  BadMeta,
  OpenArchive,
  OpenRunLog,
  DiskFault,
  OutOfMemory,
}
use Rattle.rec_salvage.specs.declared.errors.SalvageError.{SalvageError}

-- ---- a part

-- a content stands for an item of this form
abbrev pub stands_for : {T : Type 0} → (Data → Option T) → List ℕ → Bool
stands_for form content = is_some (bytes_form form content)

abbrev pub content_refusal : List ℕ → Bool → Option SalvageError
content_refusal path passes = if passes then None else Some (BadMeta path)

-- a part that may be missing
abbrev pub maybe_refusal : List ℕ → (List ℕ → Bool) → Option (List ℕ) → Option SalvageError
maybe_refusal path passes None = None
maybe_refusal path passes (Some content) = content_refusal path (passes content)

-- one that each run has
abbrev pub part_refusal : List ℕ → (List ℕ → Bool) → Option (List ℕ) → Option SalvageError
part_refusal path passes None = Some (MissingMeta path)
part_refusal path passes (Some content) = content_refusal path (passes content)

-- ---- all parts

-- the first part of the metadata that isn't read
abbrev pub prefix_refusal : List Entry → Option SalvageError
prefix_refusal es =
    option_or (part_refusal build_scope_path (stands_for recorded_scope_form)
    (content_of es build_scope_path))
    (option_or
    (maybe_refusal rerun_info_path (stands_for rerun_info_form) (content_of es rerun_info_path))
    (option_or
    (part_refusal test_list_path (stands_for test_list_form) (content_of es test_list_path))
    (option_or (part_refusal cargo_metadata_path is_utf8 (content_of es cargo_metadata_path))
    (part_refusal record_opts_path (stands_for record_opts_form)
    (content_of es record_opts_path)))))

-- ---- answers

-- an error is this refusal, or want of memory
abbrev pub IsRefusal : Option SalvageError → SalvageError → Type 0
IsRefusal None e = e ≡ OutOfMemory
IsRefusal (Some refusal) e = (e ≡ refusal) ⊎ (e ≡ OutOfMemory)

-- a part is judged: no refusal, or this one
abbrev pub Judges : Option SalvageError → Result ⊤ SalvageError → Type 0
Judges refusal (Ok done) = refusal ≡ None
Judges refusal (Err e) = IsRefusal refusal e

-- the store has a whole prefix, of which this is the refusal
abbrev pub HasRefusal : List ℕ → SalvageError → Type 0
HasRefusal store e = (es : List Entry) × IsWholePrefix store es × (prefix_refusal es ≡ Some e)

-- why a store is refused
abbrev pub IsRefused : List ℕ → SalvageError → Type 0
IsRefused store BadMagic = has_magic store ≡ false
IsRefused store (MissingMeta path) = HasRefusal store (MissingMeta path)
IsRefused store (BadMeta path) = HasRefusal store (BadMeta path)
IsRefused store (OpenArchive path) = ⊥
IsRefused store (OpenRunLog path) = ⊥
IsRefused store (DiskFault path) = ⊥
IsRefused store OutOfMemory = Unit {0}
