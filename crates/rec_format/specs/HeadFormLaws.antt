-- A head reads back, and is writable.
use Rattle.std.proofs.Common.{arith}
use Rattle.std.specs.Prelude.{◌≡◌, ◌++◌, Some, refl, codes}
use Rattle.serde_json.specs.Data.{string, Members}
use Rattle.rec_events.specs.Names.{IsText}
use Rattle.rec_forms.specs.GivesWellFormed.{Holds, GivesWellFormed}
use Rattle.rec_forms.specs.IdLaws.{uuid_back, uuid_writable, uuid_well_formed, version_back}
use Rattle.rec_forms.specs.Ids.{uuid_value, uuid_form, IsUuid}
use Rattle.rec_forms.specs.ListLaws.{each_back, maybe_back}
use Rattle.rec_forms.specs.MapLaws.{map_back}
use Rattle.rec_forms.specs.Members.{get_member-members_of}
use Rattle.rec_forms.specs.NumberLaws.{text_back, text_well_formed}
use Rattle.rec_forms.specs.Recording.{record_opts_form, test_list_form}
use Rattle.rec_forms.specs.RecordingLaws.{test_list_back, test_list_writable, record_opts_back}
use Rattle.rec_forms.specs.RecordingLaws.{record_opts_writable, test_list_well_formed}
use Rattle.rec_forms.specs.Shape.{text_of}
use Rattle.rec_forms.specs.TimeLaws.{stamp_back, stamp_writable, stamp_well_formed}
use Rattle.rec_forms.specs.TimeLaws.{duration_back, duration_writable}
use Rattle.rec_forms.specs.Times.{stamp_form, duration_value, duration_form, IsDuration}
use Rattle.rec_forms.specs.WellFormedLaws.{any_well_formed, then_holds}
use Rattle.rec_forms.specs.WellFormedLaws.{object_then, required_then, maybe_then}
use Rattle.rec_forms.specs.Writable.{IsWritable, EachWritten, weaker, struct_writable}
use Rattle.rec_forms.specs.Writable.{string_writable, optional_writable}
use Rattle.rec_format.specs.declared.forms.head.Contents.{Contents}
use Rattle.rec_format.specs.declared.head.SessionHead.{SessionHead}
use Rattle.rec_format.specs.HeadForms.{head_value, head_form, build_fields}
use Rattle.rec_format.specs.HeadForms.{head_invocation, head_contents, contents_fields}
use Rattle.rec_format.specs.HeadForms.{contents_form, IsHead, AreContents}
use Rattle.rec_format.specs.PartFormLaws.{appended, invocation_written, invocation_well_formed}
use Rattle.rec_format.specs.PartForms.{invocation_fields, invocation_form}
use Rattle.rec_format.specs.RerunFormLaws.{
  rerun_info_back,
  rerun_info_writable,
  rerun_info_well_formed,
}
use Rattle.rec_format.specs.RerunForms.{rerun_info_value, rerun_info_form, IsRerunInfo}
use Rattle.rec_format.specs.ScopeFormLaws.{
  recorded_scope_back,
  recorded_scope_writable,
  recorded_scope_well_formed,
}
use Rattle.rec_format.specs.ScopeForms.{recorded_scope_form}
use Rattle.rec_format.specs.StatusFormLaws.{status_back, status_writable, status_well_formed}
use Rattle.rec_format.specs.StatusForms.{status_form}

pub head_back : (h : SessionHead) → IsHead h → head_form (head_value h) ≡ Some h
unfolding head_form invocation_form contents_form
head_back h is =
    simp (
      get_member-members_of,
      recorded_scope_back _ is.build_scope,
      text_back _ is.cargo_metadata,
      each_back IsText string text_of text_back _ is.invocation.cli_args,
      maybe_back IsDuration duration_value duration_form duration_back duration_writable h.duration
          is.invocation.duration,
      map_back IsText string text_of text_back _ is.invocation.env_vars,
      stamp_back _ is.invocation.last_written_at,
      version_back _ is.invocation.nextest_version,
      maybe_back IsUuid uuid_value uuid_form uuid_back uuid_writable h.parent_run_id
          is.invocation.parent_run_id,
      record_opts_back h.record_opts,
      maybe_back IsRerunInfo rerun_info_value rerun_info_form rerun_info_back rerun_info_writable
          h.rerun_info is.contents.rerun_info,
      uuid_back _ is.contents.run_id,
      stamp_back _ is.contents.started_at,
      status_back _ is.contents.status,
      test_list_back _ is.contents.test_list,
    )

build_written : (h : SessionHead) → IsHead h → EachWritten 7 (build_fields h)
build_written h is = (
  weaker 5 7 (omega arith) (recorded_scope_writable h.build_scope is.build_scope),
  (string_writable h.cargo_metadata is.cargo_metadata, tt),
)

contents_written : (c : Contents) → AreContents c → EachWritten 7 (contents_fields c)
contents_written c h = (
  weaker 1 7 (omega arith) (record_opts_writable c.record_opts),
  (
    optional_writable rerun_info_value rerun_info_writable c.rerun_info h.rerun_info,
    (
      weaker 0 7 (omega arith) (uuid_writable c.run_id h.run_id),
      (
        weaker 1 7 (omega arith) (stamp_writable c.started_at h.started_at),
        (
          weaker 1 7 (omega arith) (status_writable c.status h.status),
          (weaker 3 7 (omega arith) (test_list_writable c.test_list h.test_list), tt),
        ),
      ),
    ),
  ),
)

pub head_writable : (h : SessionHead) → IsHead h → IsWritable 8 (head_value h)
head_writable h is =
    let rest = invocation_fields (head_invocation h) ++ contents_fields (head_contents h) in
    struct_writable (build_fields h ++ rest) refl
    (appended 7 (build_fields h) rest (build_written h is)
    (appended 7 (invocation_fields (head_invocation h)) (contents_fields (head_contents h))
    (invocation_written 7 (head_invocation h) (omega arith) is.invocation)
    (contents_written (head_contents h) is.contents)))

-- ---- what is read is well-formed

contents_well_formed : (ms : Members) → Holds AreContents (contents_form ms)
unfolding contents_form
contents_well_formed ms =
    required_then uuid_form (codes "run-id") ms _ uuid_well_formed (λ run_id run_id_is.
    required_then stamp_form (codes "started-at") ms _ stamp_well_formed
    (λ started_at started_at_is.
    required_then record_opts_form (codes "record-opts") ms _ (any_well_formed record_opts_form)
    (λ record_opts record_opts_is.
    required_then status_form (codes "status") ms _ status_well_formed (λ status status_is.
    required_then test_list_form (codes "test-list") ms _ test_list_well_formed
    (λ test_list test_list_is.
    maybe_then rerun_info_form (codes "rerun-info") ms _ rerun_info_well_formed
    (λ rerun_info rerun_info_is.
    record {
      is = record {
        rerun_info = rerun_info_is;
        run_id = run_id_is;
        started_at = started_at_is;
        status = status_is;
        test_list = test_list_is;
      };
    }))))))

pub head_well_formed : GivesWellFormed IsHead head_form
unfolding head_form
head_well_formed = record {
  each = λ d.
      object_then d _ (λ ms.
      required_then text_of (codes "cargo-metadata") ms _ text_well_formed
      (λ cargo_metadata cargo_metadata_is.
      then_holds (invocation_form ms) _ (invocation_well_formed ms) (λ i i_is.
      then_holds (contents_form ms) _ (contents_well_formed ms) (λ c c_is.
      required_then recorded_scope_form (codes "build-scope") ms _ recorded_scope_well_formed
      (λ build_scope build_scope_is.
      record {
        is = record {
          build_scope = build_scope_is;
          cargo_metadata = cargo_metadata_is;
          invocation = i_is;
          contents = c_is;
        };
      })))));
}
