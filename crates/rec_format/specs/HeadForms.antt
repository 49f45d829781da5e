-- The value and form of a head.
use Rattle.std.specs.Prelude.{List, [], ◌∷◌, ◌++◌, Option, Some, IfSome, codes}
use Rattle.serde_json.specs.Data.{Data, string, Members}
use Rattle.serde_json.specs.Find.{as_object}
use Rattle.rec_events.specs.Names.{IsText}
use Rattle.rec_forms.specs.Ids.{uuid_value, uuid_form, IsUuid}
use Rattle.rec_forms.specs.Recording.{test_list_value, test_list_form, IsTestList}
use Rattle.rec_forms.specs.Recording.{record_opts_value, record_opts_form}
use Rattle.rec_forms.specs.Shape.{◌>>=◌, Field, field, optional, struct, required, maybe, text_of}
use Rattle.rec_forms.specs.Times.{stamp_value, stamp_form, IsStamp}
use Rattle.rec_format.specs.declared.forms.head.Contents.{Contents}
use Rattle.rec_format.specs.declared.forms.parts.Invocation.{Invocation}
use Rattle.rec_format.specs.declared.head.SessionHead.{SessionHead}
use Rattle.rec_format.specs.PartForms.{invocation_fields, invocation_form, IsInvocation}
use Rattle.rec_format.specs.RerunForms.{rerun_info_value, rerun_info_form, IsRerunInfo}
use Rattle.rec_format.specs.ScopeForms.{recorded_scope_value, recorded_scope_form, IsRecordedScope}
use Rattle.rec_format.specs.StatusForms.{status_value, status_form, IsStatus}

-- which run it is, when it began, what was run and how it ended
abbrev pub contents_fields : Contents → List Field
contents_fields c =
    field (codes "record-opts") (record_opts_value c.record_opts)
    ∷ optional (codes "rerun-info") rerun_info_value c.rerun_info
    ∷ field (codes "run-id") (uuid_value c.run_id)
    ∷ field (codes "started-at") (stamp_value c.started_at)
    ∷ field (codes "status") (status_value c.status)
    ∷ field (codes "test-list") (test_list_value c.test_list)
    ∷ []

unfoldable pub contents_form : Members → Option Contents
contents_form ms = do
  run_id ← required uuid_form (codes "run-id") ms
  started_at ← required stamp_form (codes "started-at") ms
  record_opts ← required record_opts_form (codes "record-opts") ms
  status ← required status_form (codes "status") ms
  test_list ← required test_list_form (codes "test-list") ms
  rerun_info ← maybe rerun_info_form (codes "rerun-info") ms
  Some (record {
    record_opts = record_opts;
    rerun_info = rerun_info;
    run_id = run_id;
    started_at = started_at;
    status = status;
    test_list = test_list;
  })

pub record AreContents (c : Contents) : Type 0 where
  pub rerun_info : IfSome c.rerun_info IsRerunInfo
  pub run_id : IsUuid c.run_id
  pub started_at : IsStamp c.started_at
  pub status : IsStatus c.status
  pub test_list : IsTestList c.test_list

-- ---- the parts of a head

-- what was built, and what cargo printed about it
abbrev pub build_fields : SessionHead → List Field
build_fields h =
    field (codes "build-scope") (recorded_scope_value h.build_scope)
    ∷ field (codes "cargo-metadata") (string h.cargo_metadata)
    ∷ []

abbrev pub head_invocation : SessionHead → Invocation
head_invocation h = record {
  cli_args = h.cli_args;
  duration = h.duration;
  env_vars = h.env_vars;
  last_written_at = h.last_written_at;
  nextest_version = h.nextest_version;
  parent_run_id = h.parent_run_id;
}

abbrev pub head_contents : SessionHead → Contents
head_contents h = record {
  record_opts = h.record_opts;
  rerun_info = h.rerun_info;
  run_id = h.run_id;
  started_at = h.started_at;
  status = h.status;
  test_list = h.test_list;
}

abbrev pub head_value : SessionHead → Data
head_value h =
    struct
    (build_fields h ++ invocation_fields (head_invocation h) ++ contents_fields (head_contents h))

unfoldable pub head_form : Data → Option SessionHead
head_form d = do
  ms ← as_object d
  cargo_metadata ← required text_of (codes "cargo-metadata") ms
  i ← invocation_form ms
  c ← contents_form ms
  build_scope ← required recorded_scope_form (codes "build-scope") ms
  Some (record {
    run_id = c.run_id;
    nextest_version = i.nextest_version;
    started_at = c.started_at;
    last_written_at = i.last_written_at;
    duration = i.duration;
    cli_args = i.cli_args;
    env_vars = i.env_vars;
    parent_run_id = i.parent_run_id;
    status = c.status;
    cargo_metadata = cargo_metadata;
    test_list = c.test_list;
    record_opts = c.record_opts;
    build_scope = build_scope;
    rerun_info = c.rerun_info;
  })

pub record IsHead (h : SessionHead) : Type 0 where
  pub build_scope : IsRecordedScope h.build_scope
  pub cargo_metadata : IsText h.cargo_metadata
  pub invocation : IsInvocation (head_invocation h)
  pub contents : AreContents (head_contents h)
