-- A run's metadata and a manifest read back, and are writable.
use Rattle.std.proofs.Common.{ap, arith}
use Rattle.std.specs.Prelude.{◌≡◌, ◌++◌, Some, refl, codes}
use Rattle.serde_json.specs.Data.{string}
use Rattle.rec_events.specs.Names.{IsText}
use Rattle.rec_forms.specs.GivesWellFormed.{GivesWellFormed}
use Rattle.rec_forms.specs.IdLaws.{uuid_back, uuid_writable, version_back}
use Rattle.rec_forms.specs.Ids.{uuid_value, uuid_form, IsUuid}
use Rattle.rec_forms.specs.ListLaws.{each_back, maybe_back}
use Rattle.rec_forms.specs.MapLaws.{map_back}
use Rattle.rec_forms.specs.Members.{get_member-members_of}
use Rattle.rec_forms.specs.NumberLaws.{text_back, u32_back, u32_writable, u32_well_formed}
use Rattle.rec_forms.specs.Numbers.{u32_form}
use Rattle.rec_forms.specs.Shape.{text_of}
use Rattle.rec_forms.specs.TimeLaws.{stamp_back, duration_back, duration_writable}
use Rattle.rec_forms.specs.Times.{duration_value, duration_form, IsDuration}
use Rattle.rec_forms.specs.WellFormedLaws.{then_holds, object_then, required_then, defaulted_then}
use Rattle.rec_forms.specs.Writable.{IsWritable, EachWritten, weaker, struct_writable}
use Rattle.rec_format.specs.declared.forms.parts.Outcome.{Outcome}
use Rattle.rec_format.specs.declared.manifest.PortableManifest.{PortableManifest}
use Rattle.rec_format.specs.declared.run.RecordedRun.{RecordedRun}
use Rattle.rec_format.specs.declared.run.RecordedRunInfo.{RecordedRunInfo}
use Rattle.rec_format.specs.PartFormLaws.{appended, invocation_written, outcome_written}
use Rattle.rec_format.specs.PartFormLaws.{invocation_well_formed, outcome_well_formed}
use Rattle.rec_format.specs.PartForms.{invocation_fields, invocation_form}
use Rattle.rec_format.specs.PartForms.{IsOutcome, outcome_fields, outcome_form}
use Rattle.rec_format.specs.RunForms.{run_value, run_form, run_invocation, run_outcome}
use Rattle.rec_format.specs.RunForms.{store_fields, IsRun, info_value, info_form}
use Rattle.rec_format.specs.RunForms.{info_invocation, info_outcome, info_fields}
use Rattle.rec_format.specs.RunForms.{IsInfo, manifest_value, manifest_form, IsManifest}
use Rattle.rec_format.specs.SizeFormLaws.{sizes_format_back}
use Rattle.rec_format.specs.Sizes.{sizes_format, sizes_of}
use Rattle.rec_format.specs.Status.{status_format, status_of}
use Rattle.rec_format.specs.StatusFormLaws.{of-format, status_format_back}
use Rattle.rec_format.specs.VersionFormLaws.{
  store_version_back,
  store_version_writable,
  store_version_well_formed,
  portable_version_back,
  portable_version_writable,
  portable_version_well_formed,
}
use Rattle.rec_format.specs.VersionForms.{store_version_form, portable_version_form}

pub run_back : (r : RecordedRun) → IsRun r → run_form (run_value r) ≡ Some r
unfolding run_form invocation_form outcome_form
run_back r is =
    simp (
      get_member-members_of,
      each_back IsText string text_of text_back _ is.invocation.cli_args,
      maybe_back IsDuration duration_value duration_form duration_back duration_writable r.duration
          is.invocation.duration,
      map_back IsText string text_of text_back _ is.invocation.env_vars,
      stamp_back _ is.invocation.last_written_at,
      version_back _ is.invocation.nextest_version,
      maybe_back IsUuid uuid_value uuid_form uuid_back uuid_writable r.parent_run_id
          is.invocation.parent_run_id,
      uuid_back _ is.outcome.run_id,
      sizes_format_back _ is.outcome.sizes,
      stamp_back _ is.outcome.started_at,
      status_format_back _ is.outcome.status,
      u32_back _ is.store_format_version,
      u32_back _ is.store_format_minor_version,
    )

store_written : (r : RecordedRun) → IsRun r → EachWritten 2 (store_fields r)
store_written r h = (
  u32_writable r.store_format_minor_version h.store_format_minor_version,
  (u32_writable r.store_format_version h.store_format_version, tt),
)

pub run_writable : (r : RecordedRun) → IsRun r → IsWritable 3 (run_value r)
run_writable r is =
    let rest = outcome_fields (run_outcome r) ++ store_fields r in
    struct_writable (invocation_fields (run_invocation r) ++ rest) refl
    (appended 2 (invocation_fields (run_invocation r)) rest
    (invocation_written 2 (run_invocation r) (omega arith) is.invocation)
    (appended 2 (outcome_fields (run_outcome r)) (store_fields r)
    (outcome_written (run_outcome r) is.outcome) (store_written r is)))

pub info_back : (i : RecordedRunInfo) → IsInfo i → info_form (info_value i) ≡ Some i
unfolding info_form invocation_form outcome_form
info_back i is =
    simp (
      get_member-members_of,
      each_back IsText string text_of text_back _ is.invocation.cli_args,
      maybe_back IsDuration duration_value duration_form duration_back duration_writable i.duration
          is.invocation.duration,
      map_back IsText string text_of text_back _ is.invocation.env_vars,
      stamp_back _ is.invocation.last_written_at,
      version_back _ is.invocation.nextest_version,
      maybe_back IsUuid uuid_value uuid_form uuid_back uuid_writable i.parent_run_id
          is.invocation.parent_run_id,
      uuid_back _ is.outcome.run_id,
      sizes_format_back _ is.outcome.sizes,
      stamp_back _ is.outcome.started_at,
      status_format_back _ is.outcome.status,
      store_version_back _ is.store_format_version,
    ) (ap (λ status. Some (record i { status = status })) (of-format i.status))

info_written : (i : RecordedRunInfo) → IsInfo i → EachWritten 2 (info_fields i)
info_written i h = (
  weaker 1 2 (omega arith) (store_version_writable i.store_format_version h.store_format_version),
  tt,
)

pub info_writable : (i : RecordedRunInfo) → IsInfo i → IsWritable 3 (info_value i)
info_writable i is =
    let rest = outcome_fields (info_outcome i) ++ info_fields i in
    struct_writable (invocation_fields (info_invocation i) ++ rest) refl
    (appended 2 (invocation_fields (info_invocation i)) rest
    (invocation_written 2 (info_invocation i) (omega arith) is.invocation)
    (appended 2 (outcome_fields (info_outcome i)) (info_fields i)
    (outcome_written (info_outcome i) is.outcome) (info_written i is)))

pub manifest_back : (m : PortableManifest) → IsManifest m
    → manifest_form (manifest_value m) ≡ Some m
unfolding manifest_form
manifest_back m is =
    simp (get_member-members_of, portable_version_back _ is.format_version, run_back _ is.run)

pub manifest_writable : (m : PortableManifest) → IsManifest m → IsWritable 4 (manifest_value m)
manifest_writable m is =
    struct_writable _ refl (
      weaker 1 3 (omega arith) (portable_version_writable m.format_version is.format_version),
      (run_writable m.run is.run, tt),
    )

-- ---- what is read is well-formed

pub run_well_formed : GivesWellFormed IsRun run_form
unfolding run_form
run_well_formed = record {
  each = λ d.
      object_then d _ (λ ms.
      required_then u32_form (codes "store-format-version") ms _ u32_well_formed (λ major major_is.
      defaulted_then u32_form (codes "store-format-minor-version") ms 0 _ (omega arith)
      u32_well_formed (λ minor minor_is.
      then_holds (outcome_form ms) _ (outcome_well_formed ms) (λ o o_is.
      then_holds (invocation_form ms) _ (invocation_well_formed ms) (λ i i_is.
      record {
        is = record {
          invocation = i_is;
          outcome = o_is;
          store_format_version = major_is;
          store_format_minor_version = minor_is;
        };
      })))));
}

-- an outcome stays well-formed as that of the information made of it
outcome-info : (o : Outcome) → IsOutcome o → IsOutcome (record o {
  sizes = sizes_format (sizes_of o.sizes);
  status = status_format (status_of o.status);
})
outcome-info o is = record {
  run_id = is.run_id;
  sizes = is.sizes;
  started_at = is.started_at;
  status = rw (of-format (status_of o.status)) is.status;
}

pub info_well_formed : GivesWellFormed IsInfo info_form
unfolding info_form
info_well_formed = record {
  each = λ d.
      object_then d _ (λ ms.
      required_then store_version_form (codes "store-format-version") ms _ store_version_well_formed
      (λ store_format_version store_format_version_is.
      then_holds (outcome_form ms) _ (outcome_well_formed ms) (λ o o_is.
      then_holds (invocation_form ms) _ (invocation_well_formed ms) (λ i i_is.
      record {
        is = record {
          invocation = i_is;
          outcome = outcome-info o o_is;
          store_format_version = store_format_version_is;
        };
      }))));
}

pub manifest_well_formed : GivesWellFormed IsManifest manifest_form
unfolding manifest_form
manifest_well_formed = record {
  each = λ d.
      object_then d _ (λ ms.
      required_then portable_version_form (codes "format-version") ms _ portable_version_well_formed
      (λ format_version format_version_is.
      required_then run_form (codes "run") ms _ run_well_formed (λ run run_is.
      record { is = record { format_version = format_version_is; run = run_is } })));
}
