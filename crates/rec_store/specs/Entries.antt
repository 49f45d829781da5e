-- The entries of bundles, and of stores that hold metadata, by their contents.
use Rattle.std.specs.Prelude.{ℕ, List, [], ◌∷◌, codes}
use Rattle.serde_json.specs.Data.{Data}
use Rattle.serde_json.specs.Written.{compact_text}
use Rattle.rec_container.specs.Container.{Entry}
use Rattle.rec_container.specs.Writing.{entry_named}

-- the paths of metadata
abbrev pub build_scope_path : List ℕ
build_scope_path = codes "meta/build-scope.json"

abbrev pub rerun_info_path : List ℕ
rerun_info_path = codes "meta/rerun-info.json"

abbrev pub test_list_path : List ℕ
test_list_path = codes "meta/test-list.json"

abbrev pub cargo_metadata_path : List ℕ
cargo_metadata_path = codes "meta/cargo-metadata.json"

abbrev pub record_opts_path : List ℕ
record_opts_path = codes "meta/record-opts.json"

-- an entry that is JSON
abbrev pub json_entry : List ℕ → Data → Entry
json_entry path value = entry_named path (compact_text value)

-- the entries of these three texts
abbrev pub three_entries : List ℕ → List ℕ → List ℕ → List Entry
three_entries list metadata opts =
    entry_named test_list_path list ∷ entry_named cargo_metadata_path metadata
    ∷ entry_named record_opts_path opts ∷ []

-- the names of a bundle's entries
abbrev pub manifest_name : List ℕ
manifest_name = codes "manifest.json"

abbrev pub log_name : List ℕ
log_name = codes "run.log.zst"

abbrev pub store_name : List ℕ
store_name = codes "store.zip"

-- a bundle of these three contents
abbrev pub bundle_entries : List ℕ → List ℕ → List ℕ → List Entry
bundle_entries manifest log store =
    entry_named manifest_name manifest ∷ entry_named log_name log ∷ entry_named store_name store
    ∷ []
