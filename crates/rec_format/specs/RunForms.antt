-- The values and forms of a run's metadata and of a manifest.
use Rattle.std.specs.Prelude.{List, [], ◌∷◌, ◌++◌, Option, Some, codes}
use Rattle.serde_json.specs.Data.{Data}
use Rattle.serde_json.specs.Find.{as_object}
use Rattle.rec_forms.specs.Numbers.{u32_form}
use Rattle.rec_forms.specs.Shape.{◌>>=◌, Field, natural, field, struct, required, defaulted}
use Rattle.rec_format.specs.declared.forms.parts.Invocation.{Invocation}
use Rattle.rec_format.specs.declared.forms.parts.Outcome.{Outcome}
use Rattle.rec_format.specs.declared.manifest.PortableManifest.{PortableManifest}
use Rattle.rec_format.specs.declared.run.RecordedRun.{RecordedRun}
use Rattle.rec_format.specs.declared.run.RecordedRunInfo.{RecordedRunInfo}
use Rattle.rec_format.specs.PartForms.{invocation_fields, invocation_form, IsInvocation}
use Rattle.rec_format.specs.PartForms.{outcome_fields, outcome_form, IsOutcome}
use Rattle.rec_format.specs.Runs.{run_of}
use Rattle.rec_format.specs.Sizes.{sizes_of}
use Rattle.rec_format.specs.Status.{status_of}
use Rattle.rec_format.specs.VersionForms.{IsNumber, store_version_value, store_version_form}
use Rattle.rec_format.specs.VersionForms.{IsStoreVersion, portable_version_value}
use Rattle.rec_format.specs.VersionForms.{portable_version_form, IsPortableVersion}

abbrev pub run_invocation : RecordedRun → Invocation
run_invocation r = record {
  cli_args = r.cli_args;
  duration = r.duration;
  env_vars = r.env_vars;
  last_written_at = r.last_written_at;
  nextest_version = r.nextest_version;
  parent_run_id = r.parent_run_id;
}

abbrev pub run_outcome : RecordedRun → Outcome
run_outcome r =
    record { run_id = r.run_id; sizes = r.sizes; started_at = r.started_at; status = r.status }

-- the versions of its store
abbrev pub store_fields : RecordedRun → List Field
store_fields r =
    field (codes "store-format-minor-version") (natural r.store_format_minor_version)
    ∷ field (codes "store-format-version") (natural r.store_format_version)
    ∷ []

abbrev pub run_value : RecordedRun → Data
run_value r =
    struct
    (invocation_fields (run_invocation r) ++ outcome_fields (run_outcome r) ++ store_fields r)

unfoldable pub run_form : Data → Option RecordedRun
run_form d = do
  ms ← as_object d
  major ← required u32_form (codes "store-format-version") ms
  minor ← defaulted 0 u32_form (codes "store-format-minor-version") ms
  o ← outcome_form ms
  i ← invocation_form ms
  Some (record {
    run_id = o.run_id;
    store_format_version = major;
    store_format_minor_version = minor;
    nextest_version = i.nextest_version;
    started_at = o.started_at;
    last_written_at = i.last_written_at;
    duration = i.duration;
    cli_args = i.cli_args;
    env_vars = i.env_vars;
    parent_run_id = i.parent_run_id;
    sizes = o.sizes;
    status = o.status;
  })

pub record IsRun (r : RecordedRun) : Type 0 where
  pub invocation : IsInvocation (run_invocation r)
  pub outcome : IsOutcome (run_outcome r)
  pub store_format_version : IsNumber r.store_format_version
  pub store_format_minor_version : IsNumber r.store_format_minor_version

-- ---- of the information on a run

abbrev pub info_invocation : RecordedRunInfo → Invocation
info_invocation i = run_invocation (run_of i)

abbrev pub info_outcome : RecordedRunInfo → Outcome
info_outcome i = run_outcome (run_of i)

-- the version of its store
abbrev pub info_fields : RecordedRunInfo → List Field
info_fields i =
    field (codes "store-format-version") (store_version_value i.store_format_version) ∷ []

abbrev pub info_value : RecordedRunInfo → Data
info_value i =
    struct
    (invocation_fields (info_invocation i) ++ outcome_fields (info_outcome i) ++ info_fields i)

unfoldable pub info_form : Data → Option RecordedRunInfo
info_form d = do
  ms ← as_object d
  store_format_version ← required store_version_form (codes "store-format-version") ms
  o ← outcome_form ms
  i ← invocation_form ms
  Some (record {
    run_id = o.run_id;
    store_format_version = store_format_version;
    nextest_version = i.nextest_version;
    started_at = o.started_at;
    last_written_at = i.last_written_at;
    duration = i.duration;
    cli_args = i.cli_args;
    env_vars = i.env_vars;
    parent_run_id = i.parent_run_id;
    sizes = sizes_of o.sizes;
    status = status_of o.status;
  })

pub record IsInfo (i : RecordedRunInfo) : Type 0 where
  pub invocation : IsInvocation (info_invocation i)
  pub outcome : IsOutcome (info_outcome i)
  pub store_format_version : IsStoreVersion i.store_format_version

-- ---- of a manifest

abbrev pub manifest_value : PortableManifest → Data
manifest_value m =
    struct (field (codes "format-version") (portable_version_value m.format_version)
    ∷ field (codes "run") (run_value m.run) ∷ [])

unfoldable pub manifest_form : Data → Option PortableManifest
manifest_form d = do
  ms ← as_object d
  format_version ← required portable_version_form (codes "format-version") ms
  run ← required run_form (codes "run") ms
  Some (record { format_version = format_version; run = run })

pub record IsManifest (m : PortableManifest) : Type 0 where
  pub format_version : IsPortableVersion m.format_version
  pub run : IsRun m.run
