-- What the store of a run holds.
use Rattle.std.specs.Prelude.{◌≡◌, ℕ, List, [], ◌∷◌, ◌++◌, Option, Some, None}
use Rattle.serde_json.specs.Written.{compact_text}
use Rattle.rec_container.specs.Container.{Entry}
use Rattle.rec_events.specs.declared.recording.RecordOpts.{RecordOpts}
use Rattle.rec_events.specs.declared.recording.TestListSummary.{TestListSummary}
use Rattle.rec_forms.specs.Recording.{test_list_value, test_list_form}
use Rattle.rec_forms.specs.Recording.{record_opts_value, record_opts_form}
use Rattle.rec_forms.specs.TextForm.{bytes_form}
use Rattle.rec_format.specs.declared.head.SessionHead.{SessionHead}
use Rattle.rec_format.specs.declared.rerun.RerunInfo.{RerunInfo}
use Rattle.rec_format.specs.declared.scope.RecordedBuildScope.{RecordedBuildScope}
use Rattle.rec_format.specs.RerunForms.{rerun_info_value}
use Rattle.rec_format.specs.ScopeForms.{recorded_scope_value}
use Rattle.rec_store.specs.Entries.{build_scope_path, rerun_info_path, json_entry, three_entries}

abbrev pub build_scope_entry : RecordedBuildScope → Entry
build_scope_entry scope = json_entry build_scope_path (recorded_scope_value scope)

abbrev pub rerun_entry : RerunInfo → Entry
rerun_entry info = json_entry rerun_info_path (rerun_info_value info)

abbrev pub rerun_entries : Option RerunInfo → List Entry
rerun_entries None = []
rerun_entries (Some info) = rerun_entry info ∷ []

-- test list, cargo metadata and record options, in this order
abbrev pub meta_entries : List ℕ → TestListSummary → RecordOpts → List Entry
meta_entries metadata list opts =
    three_entries (compact_text (test_list_value list)) metadata
    (compact_text (record_opts_value opts))

-- the texts of test list and record options are read as these
pub record AreMetaRead (list : TestListSummary) (opts : RecordOpts) : Type 0 where
  pub test_list : bytes_form test_list_form (compact_text (test_list_value list)) ≡ Some list
  pub record_opts : bytes_form record_opts_form (compact_text (record_opts_value opts)) ≡ Some opts

-- the metadata of a run, in the order in which it is stored
abbrev pub metadata_of : RecordedBuildScope → Option RerunInfo → List ℕ → TestListSummary
    → RecordOpts → List Entry
metadata_of scope rerun metadata list opts =
    build_scope_entry scope ∷ (rerun_entries rerun ++ meta_entries metadata list opts)

abbrev pub store_entries : SessionHead → List Entry
store_entries head =
    metadata_of head.build_scope head.rerun_info head.cargo_metadata head.test_list head.record_opts
