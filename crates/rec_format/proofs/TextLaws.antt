-- The texts of what is recorded of a run are read as what they were written of.
use Rattle.std.proofs.Common.{arith, subst}
use Rattle.std.specs.Prelude.{◌≡◌, ℕ, ◌≤◌, Option, Some, None, IfSome}
use Rattle.serde_json.specs.Data.{Data}
use Rattle.serde_json.specs.Read.{max_depth}
use Rattle.serde_json.specs.Written.{compact_text}
use Rattle.rec_events.specs.declared.recording.RecordOpts.{RecordOpts}
use Rattle.rec_events.specs.declared.recording.TestListSummary.{TestListSummary}
use Rattle.rec_forms.proofs.ReadBack.{IsWritable-read_back}
use Rattle.rec_forms.specs.Recording.{record_opts_value, record_opts_form}
use Rattle.rec_forms.specs.Recording.{test_list_value, test_list_form, IsTestList}
use Rattle.rec_forms.specs.RecordingLaws.{record_opts_back, record_opts_writable}
use Rattle.rec_forms.specs.RecordingLaws.{test_list_back, test_list_writable}
use Rattle.rec_forms.specs.TextForm.{bytes_form}
use Rattle.rec_forms.specs.Writable.{IsWritable}
use Rattle.rec_format.specs.declared.head.SessionHead.{SessionHead}
use Rattle.rec_format.specs.declared.manifest.PortableManifest.{PortableManifest}
use Rattle.rec_format.specs.declared.rerun.RerunInfo.{RerunInfo}
use Rattle.rec_format.specs.declared.scope.RecordedBuildScope.{RecordedBuildScope}
use Rattle.rec_format.specs.declared.sizes.RecordedSizes.{RecordedSizes}
use Rattle.rec_format.specs.HeadFormLaws.{head_well_formed}
use Rattle.rec_format.specs.HeadForms.{head_form, IsHead}
use Rattle.rec_format.specs.HeadTexts.{AreTextsRead}
use Rattle.rec_format.specs.RerunFormLaws.{rerun_info_back, rerun_info_writable}
use Rattle.rec_format.specs.RerunForms.{rerun_info_value, rerun_info_form, IsRerunInfo}
use Rattle.rec_format.specs.RunFormLaws.{manifest_back, manifest_writable}
use Rattle.rec_format.specs.RunForms.{manifest_value, manifest_form, IsManifest}
use Rattle.rec_format.specs.Runs.{recorded_info, manifest_of}
use Rattle.rec_format.specs.ScopeFormLaws.{recorded_scope_back, recorded_scope_writable}
use Rattle.rec_format.specs.ScopeForms.{recorded_scope_value, recorded_scope_form, IsRecordedScope}
use Rattle.rec_format.specs.SizeForms.{AreSizes}
use Rattle.rec_format.specs.StatusFormLaws.{of-format}

-- the text of a value that stands for the item is read as the item
text_back : {T : Type 0} (n : ℕ) (value : T → Data) (form : Data → Option T) (x : T)
    → IsWritable n (value x) → n ≤ max_depth → form (value x) ≡ Some x
    → bytes_form form (compact_text (value x)) ≡ Some x
text_back n value form x writable deep back =
    let whole = IsWritable-read_back n (value x) writable deep in rw (whole.1, whole.0) back

-- ---- the parts of a head

-- a head that stands for a value is well-formed
pub IsHead-read : (d : Data) (h : SessionHead) → head_form d ≡ Some h → IsHead h
IsHead-read d h e =
    let Q : Option SessionHead → Type 0 = λ o. IfSome o IsHead in
    subst Q e (head_well_formed.each d).is

pub recorded_scope_text : (s : RecordedBuildScope) → IsRecordedScope s
    → bytes_form recorded_scope_form (compact_text (recorded_scope_value s)) ≡ Some s
recorded_scope_text s is =
    text_back 5 recorded_scope_value recorded_scope_form s (recorded_scope_writable s is)
    (omega arith) (recorded_scope_back s is)

pub rerun_info_text : (r : RerunInfo) → IsRerunInfo r
    → bytes_form rerun_info_form (compact_text (rerun_info_value r)) ≡ Some r
rerun_info_text r is =
    text_back 7 rerun_info_value rerun_info_form r (rerun_info_writable r is) (omega arith)
    (rerun_info_back r is)

pub test_list_text : (t : TestListSummary) → IsTestList t
    → bytes_form test_list_form (compact_text (test_list_value t)) ≡ Some t
test_list_text t is =
    text_back 3 test_list_value test_list_form t (test_list_writable t is) (omega arith)
    (test_list_back t is)

pub record_opts_text : (o : RecordOpts)
    → bytes_form record_opts_form (compact_text (record_opts_value o)) ≡ Some o
record_opts_text o =
    text_back 1 record_opts_value record_opts_form o (record_opts_writable o) (omega arith)
    (record_opts_back o)

if_rerun_info : (o : Option RerunInfo) → IfSome o IsRerunInfo
    → IfSome o (λ r. bytes_form rerun_info_form (compact_text (rerun_info_value r)) ≡ Some r)
if_rerun_info None is = tt
if_rerun_info (Some r) is = rerun_info_text r is

pub head_texts : (h : SessionHead) → IsHead h → AreTextsRead h
head_texts h is = record {
  build_scope = recorded_scope_text h.build_scope is.build_scope;
  rerun_info = if_rerun_info h.rerun_info is.contents.rerun_info;
  test_list = test_list_text h.test_list is.contents.test_list;
  record_opts = record_opts_text h.record_opts;
  cargo_metadata = is.cargo_metadata;
}

-- ---- the manifest of its run

-- what is recorded of a well-formed head is well-formed, where the sizes are numbers of 64 bits
pub IsManifest-recorded : (h : SessionHead) (sizes : RecordedSizes) → IsHead h → AreSizes sizes
    → IsManifest (manifest_of (recorded_info h sizes))
IsManifest-recorded h sizes is sizes_are = record {
  format_version = record { major = omega arith; minor = omega arith };
  run = record {
    invocation = is.invocation;
    outcome = record {
      run_id = is.contents.run_id;
      sizes = sizes_are;
      started_at = is.contents.started_at;
      status = rw (of-format h.status) is.contents.status;
    };
    store_format_version = omega arith;
    store_format_minor_version = omega arith;
  };
}

pub manifest_text : (m : PortableManifest) → IsManifest m
    → bytes_form manifest_form (compact_text (manifest_value m)) ≡ Some m
manifest_text m is =
    text_back 4 manifest_value manifest_form m (manifest_writable m is) (omega arith)
    (manifest_back m is)

pub recorded_manifest_text : (h : SessionHead) (sizes : RecordedSizes) → IsHead h → AreSizes sizes
    → bytes_form manifest_form (compact_text (manifest_value (manifest_of (recorded_info h sizes))))
    ≡ Some (manifest_of (recorded_info h sizes))
recorded_manifest_text h sizes is sizes_are =
    manifest_text (manifest_of (recorded_info h sizes)) (IsManifest-recorded h sizes is sizes_are)
