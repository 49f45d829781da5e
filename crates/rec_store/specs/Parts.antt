-- The parts of a store: what its entries have under a path, as far as a limit allows,
-- or why that is no part.
use Rattle.std.specs.List.{AllByRecursion}
use Rattle.std.specs.Prelude.{◌≡◌, ℕ, ◌≤◌, nat_lt, List, ◌++◌, length, map, codes}
use Rattle.std.specs.Prelude.{if◌then◌else◌, Option, Some, None, Result, Ok, Err}
use Rattle.std.specs.Str.{is_utf8}
use Rattle.serde_json.specs.Data.{Data}
use Rattle.rec_container.specs.Container.{Entry, content_of}
use Rattle.rec_container.specs.Reading.{◌>>=◌}
use Rattle.rec_forms.specs.Recording.{test_list_form, record_opts_form}
use Rattle.rec_forms.specs.Shape.{only}
use Rattle.rec_forms.specs.TextForm.{bytes_form}
use Rattle.rec_format.specs.declared.manifest.PortableManifest.{PortableManifest}
use Rattle.rec_format.specs.declared.paths.OutputDict.TheVariants as dict
use Rattle.rec_format.specs.declared.paths.OutputDict.{OutputDict}
use Rattle.rec_format.specs.declared.rerun.RerunInfo.{RerunInfo}
use Rattle.rec_format.specs.Paths.{dict_of_name}
use Rattle.rec_format.specs.RerunForms.{rerun_info_form}
use Rattle.rec_format.specs.RunForms.{manifest_form}
use Rattle.rec_format.specs.Runs.{info_of}
use Rattle.rec_format.specs.ScopeForms.{recorded_scope_form}
use Rattle.rec_codec.specs.Event.{RecordedEvent}
use Rattle.rec_codec.specs.LineReading.{events_before_fault, first_line_fault}
use Rattle.rec_codec.specs.Lines.{lines, numbered}
use Rattle.rec_store.specs.declared.read_error.RecordReadError.TheVariants.{
  FileNotFound,
  FileTooLarge,
  NotUtf8,
  DeserializeMetadata,
  UnknownOutputType,
}
use Rattle.rec_store.specs.declared.read_error.RecordReadError.{RecordReadError}
use Rattle.rec_store.specs.Entries.{build_scope_path, cargo_metadata_path}
use Rattle.rec_store.specs.Entries.{record_opts_path, rerun_info_path, test_list_path}
use Rattle.rec_store.specs.Kept.{event_resolved}
use Rattle.rec_store.specs.Reading.{RunRecord}

-- the content of an entry, where it is no longer than the limit
abbrev pub content_within : List ℕ → ℕ → List ℕ → Result (List ℕ) RecordReadError
content_within path limit content =
    if nat_lt limit (length content) then Err (FileTooLarge path (length content) limit)
    else Ok content

abbrev pub found_within : List ℕ → ℕ → Option (List ℕ) → Result (List ℕ) RecordReadError
found_within path limit None = Err (FileNotFound path)
found_within path limit (Some content) = content_within path limit content

-- the content under a path, where it is there and no longer than the limit
abbrev pub entry_part : List Entry → List ℕ → ℕ → Result (List ℕ) RecordReadError
entry_part es path limit = found_within path limit (content_of es path)

-- what is there, or this refusal
abbrev pub or_refused : {T : Type 0} → RecordReadError → Option T → Result T RecordReadError
or_refused e None = Err e
or_refused e (Some x) = Ok x

-- the item of a form for which a content stands
abbrev pub item_of : {T : Type 0} → (Data → Option T) → List ℕ → List ℕ → Result T RecordReadError
item_of form path content = or_refused (DeserializeMetadata path) (bytes_form form content)

-- test list, record options and build scope: the item of their form under their path
abbrev pub metadata_part : {T : Type 0} → (Data → Option T) → List ℕ → List Entry → ℕ
    → Result T RecordReadError
metadata_part form path es limit = entry_part es path limit >>= item_of form path

-- a content that is a text
abbrev pub utf8_of : List ℕ → List ℕ → Result (List ℕ) RecordReadError
utf8_of path content = or_refused (NotUtf8 path) (only (is_utf8 content) content)

-- cargo's metadata: the text under its path
abbrev pub utf8_part : List ℕ → List Entry → ℕ → Result (List ℕ) RecordReadError
utf8_part path es limit = entry_part es path limit >>= utf8_of path

abbrev pub some_info : RerunInfo → Result (Option RerunInfo) RecordReadError
some_info info = Ok (Some info)

abbrev pub rerun_item : ℕ → List ℕ → Result RerunInfo RecordReadError
rerun_item limit content =
    content_within rerun_info_path limit content >>= item_of rerun_info_form rerun_info_path

abbrev pub some_rerun_item : ℕ → List ℕ → Result (Option RerunInfo) RecordReadError
some_rerun_item limit content = rerun_item limit content >>= some_info

abbrev pub found_rerun_info : ℕ → Option (List ℕ) → Result (Option RerunInfo) RecordReadError
found_rerun_info limit None = Ok None
found_rerun_info limit (Some content) = some_rerun_item limit content

-- the rerun information: none where its entry isn't there
abbrev pub rerun_info_part : List Entry → ℕ → Result (Option RerunInfo) RecordReadError
rerun_info_part es limit = found_rerun_info limit (content_of es rerun_info_path)

-- a content, where the name of its output says a kind
abbrev pub of_kind : List ℕ → OutputDict → List ℕ → Result (List ℕ) RecordReadError
of_kind name dict.None content = Err (UnknownOutputType name)
of_kind name dict.Stdout content = Ok content
of_kind name dict.Stderr content = Ok content

-- the path of the output of a name
abbrev pub path_of_output : List ℕ → List ℕ
path_of_output name = codes "out/" ++ name

-- an output: the content under its path, and then its name says its kind
abbrev pub output_part : List ℕ → List Entry → ℕ → Result (List ℕ) RecordReadError
output_part name es limit =
    entry_part es (path_of_output name) limit >>= of_kind name (dict_of_name name)

-- no content is longer than the limit
abbrev pub AreWithin : List Entry → ℕ → Type 0
AreWithin es limit = AllByRecursion (λ e. length e.content ≤ limit) es

-- an output at this path and of this content is read under its name
abbrev pub IsReadAs : List Entry → ℕ → List ℕ → List ℕ → Type 0
IsReadAs es limit path content =
    (name : List ℕ) × (path ≡ path_of_output name) × (output_part name es limit ≡ Ok content)

-- the manifest that a text is read as has the version and the run information of a record
pub record IsManifestOf (text : List ℕ) (r : RunRecord) : Type 0 where
  pub manifest : PortableManifest
  pub read : bytes_form manifest_form text ≡ Some manifest
  pub format_version : manifest.format_version ≡ r.format_version
  pub run : info_of manifest.run ≡ r.run

-- no line of a log fails, and its lines give the events of a record,
-- but for the names under which these entries are
pub record IsLogOf (log : List ℕ) (es : List Entry) (r : RunRecord) : Type 0 where
  pub events : List RecordedEvent
  pub given : events_before_fault (numbered 1 (lines log)) ≡ events
  pub whole : first_line_fault (numbered 1 (lines log)) ≡ None
  pub resolved : map (event_resolved es) events ≡ r.events

-- the parts of a manifest, a log and a store are the components of what they are read as
pub record ArePartsOf (text log_bytes : List ℕ) (es : List Entry) (limit : ℕ)
    (r : RunRecord) : Type 0 where
  pub manifest : IsManifestOf text r
  pub log : IsLogOf log_bytes es r
  pub cargo_metadata : utf8_part cargo_metadata_path es limit ≡ Ok r.cargo_metadata
  pub test_list : metadata_part test_list_form test_list_path es limit ≡ Ok r.test_list
  pub record_opts : metadata_part record_opts_form record_opts_path es limit ≡ Ok r.record_opts
  pub build_scope : metadata_part recorded_scope_form build_scope_path es limit ≡ Ok r.build_scope
  pub rerun_info : rerun_info_part es limit ≡ Ok r.rerun_info
  pub outputs : (path content : List ℕ) → content_of r.outputs path ≡ Some content
      → IsReadAs es limit path content
