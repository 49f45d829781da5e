-- A status and how it stands in JSON, field by field.
use Rattle.rec_format.specs.declared.status.RecordedRunStatus.TheVariants as status
use Rattle.rec_format.specs.declared.status.RecordedRunStatus.{RecordedRunStatus}
use Rattle.rec_format.specs.declared.status.RecordedRunStatusFormat.TheVariants as format
use Rattle.rec_format.specs.declared.status.RecordedRunStatusFormat.{RecordedRunStatusFormat}

abbrev pub status_format : RecordedRunStatus → RecordedRunStatusFormat
status_format status.Incomplete = format.Incomplete
status_format (status.Completed s) =
    format.Completed s.initial_run_count s.passed s.failed s.exit_code
status_format (status.Cancelled s) =
    format.Cancelled s.initial_run_count s.passed s.failed s.exit_code
status_format (status.StressCompleted s) =
    format.StressCompleted s.initial_iteration_count s.success_count s.failed_count s.exit_code
status_format (status.StressCancelled s) =
    format.StressCancelled s.initial_iteration_count s.success_count s.failed_count s.exit_code
status_format status.Unknown = format.Unknown

abbrev pub status_of : RecordedRunStatusFormat → RecordedRunStatus
status_of format.Incomplete = status.Incomplete
status_of format.Unknown = status.Unknown
status_of (format.Completed initial_run_count passed failed exit_code) =
    status.Completed (record {
      initial_run_count = initial_run_count;
      passed = passed;
      failed = failed;
      exit_code = exit_code;
    })
status_of (format.Cancelled initial_run_count passed failed exit_code) =
    status.Cancelled (record {
      initial_run_count = initial_run_count;
      passed = passed;
      failed = failed;
      exit_code = exit_code;
    })
status_of (format.StressCompleted initial_iteration_count success_count failed_count exit_code) =
    status.StressCompleted (record {
      initial_iteration_count = initial_iteration_count;
      success_count = success_count;
      failed_count = failed_count;
      exit_code = exit_code;
    })
status_of (format.StressCancelled initial_iteration_count success_count failed_count exit_code) =
    status.StressCancelled (record {
      initial_iteration_count = initial_iteration_count;
      success_count = success_count;
      failed_count = failed_count;
      exit_code = exit_code;
    })
