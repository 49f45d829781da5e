-- The metadata of a run as a head, a manifest and a program have it.
use Rattle.rec_format.specs.declared.head.SessionHead.{SessionHead}
use Rattle.rec_format.specs.declared.manifest.PortableManifest.{PortableManifest}
use Rattle.rec_format.specs.declared.run.RecordedRun.{RecordedRun}
use Rattle.rec_format.specs.declared.run.RecordedRunInfo.{RecordedRunInfo}
use Rattle.rec_format.specs.declared.sizes.RecordedSizes.{RecordedSizes}
use Rattle.rec_format.specs.declared.versions.StoreFormatVersion.{StoreFormatVersion}
use Rattle.rec_format.specs.Sizes.{sizes_format, sizes_of}
use Rattle.rec_format.specs.Status.{status_format, status_of}
use Rattle.rec_format.specs.Versions.{store_version, portable_version}

-- what is recorded of a head, where its log and store have these sizes
abbrev pub recorded_info : SessionHead → RecordedSizes → RecordedRunInfo
recorded_info head sizes = record {
  run_id = head.run_id;
  store_format_version = store_version;
  nextest_version = head.nextest_version;
  started_at = head.started_at;
  last_written_at = head.last_written_at;
  duration = head.duration;
  cli_args = head.cli_args;
  env_vars = head.env_vars;
  parent_run_id = head.parent_run_id;
  sizes = sizes;
  status = head.status;
}

abbrev pub run_of : RecordedRunInfo → RecordedRun
run_of info = record {
  run_id = info.run_id;
  store_format_version = info.store_format_version.major;
  store_format_minor_version = info.store_format_version.minor;
  nextest_version = info.nextest_version;
  started_at = info.started_at;
  last_written_at = info.last_written_at;
  duration = info.duration;
  cli_args = info.cli_args;
  env_vars = info.env_vars;
  parent_run_id = info.parent_run_id;
  sizes = sizes_format info.sizes;
  status = status_format info.status;
}

-- the version of a run's store
abbrev pub store_version_in : RecordedRun → StoreFormatVersion
store_version_in run =
    record { major = run.store_format_version; minor = run.store_format_minor_version }

abbrev pub info_of : RecordedRun → RecordedRunInfo
info_of run = record {
  run_id = run.run_id;
  store_format_version = store_version_in run;
  nextest_version = run.nextest_version;
  started_at = run.started_at;
  last_written_at = run.last_written_at;
  duration = run.duration;
  cli_args = run.cli_args;
  env_vars = run.env_vars;
  parent_run_id = run.parent_run_id;
  sizes = sizes_of run.sizes;
  status = status_of run.status;
}

abbrev pub manifest_of : RecordedRunInfo → PortableManifest
manifest_of info = record { format_version = portable_version; run = run_of info }
