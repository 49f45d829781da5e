-- The kinds of events that hold no outputs are read as well-formed ones.
use Rattle.std.specs.Prelude.{codes}
use Rattle.serde_json.specs.Data.{Members}
use Rattle.serde_json.specs.Find.{as_bool}
use Rattle.rec_forms.specs.GivesWellFormed.{Holds}
use Rattle.rec_forms.specs.IdLaws.{uuid_well_formed}
use Rattle.rec_forms.specs.Ids.{uuid_form}
use Rattle.rec_forms.specs.InstanceLaws.{retry_data_well_formed, slot_assignment_well_formed}
use Rattle.rec_forms.specs.InstanceLaws.{stress_index_well_formed, test_instance_well_formed}
use Rattle.rec_forms.specs.Instances.{stress_index_form, retry_data_form}
use Rattle.rec_forms.specs.Instances.{slot_assignment_form, test_instance_form}
use Rattle.rec_forms.specs.Lists.{list_form}
use Rattle.rec_forms.specs.NumberLaws.{text_well_formed, u64_well_formed}
use Rattle.rec_forms.specs.Numbers.{u64_form}
use Rattle.rec_forms.specs.Reporting.{cancel_reason_form}
use Rattle.rec_forms.specs.RunEndLaws.{run_finished_stats_well_formed, tests_not_seen_well_formed}
use Rattle.rec_forms.specs.RunEnds.{tests_not_seen_form, run_finished_stats_form}
use Rattle.rec_forms.specs.Shape.{text_of}
use Rattle.rec_forms.specs.Skipping.{mismatch_reason_form, skip_policy_form}
use Rattle.rec_forms.specs.Stats.{run_stats_form}
use Rattle.rec_forms.specs.StatsLaws.{run_stats_well_formed}
use Rattle.rec_forms.specs.Stress.{stress_condition_form, stress_progress_form}
use Rattle.rec_forms.specs.StressLaws.{stress_condition_well_formed, stress_progress_well_formed}
use Rattle.rec_forms.specs.TimeLaws.{duration_well_formed, stamp_well_formed}
use Rattle.rec_forms.specs.Times.{duration_form, stamp_form}
use Rattle.rec_forms.specs.WellFormedLaws.{any_well_formed, then_holds, required_then}
use Rattle.rec_forms.specs.WellFormedLaws.{maybe_then, list_well_formed}
use Rattle.rec_codec.specs.CoreKindForms.{place_form, IsPlace, command_form, IsCommand}
use Rattle.rec_codec.specs.CoreKindForms.{run_started_form, stress_sub_run_started_form}
use Rattle.rec_codec.specs.CoreKindForms.{setup_script_started_form, run_paused_form}
use Rattle.rec_codec.specs.CoreKindForms.{run_continued_form}
use Rattle.rec_codec.specs.CoreKindForms.{stress_sub_run_finished_form, run_finished_form}
use Rattle.rec_codec.specs.CoreKindForms.{setup_script_slow_form, test_started_form}
use Rattle.rec_codec.specs.CoreKindForms.{test_slow_form, test_retry_started_form}
use Rattle.rec_codec.specs.CoreKindForms.{test_skipped_form, run_begin_cancel_form}
use Rattle.rec_codec.specs.CoreKinds.{IsCore}

pub run_started_well_formed : (ms : Members) → Holds IsCore (run_started_form ms)
unfolding run_started_form
run_started_well_formed ms =
    required_then uuid_form (codes "run-id") ms _ uuid_well_formed (λ run_id run_id_is.
    required_then text_of (codes "profile-name") ms _ text_well_formed
    (λ profile_name profile_name_is.
    required_then (list_form text_of) (codes "cli-args") ms _
    (list_well_formed text_of text_well_formed) (λ cli_args cli_args_is.
    maybe_then stress_condition_form (codes "stress-condition") ms _ stress_condition_well_formed
    (λ stress_condition stress_condition_is.
    record { is = (run_id_is, profile_name_is, cli_args_is, stress_condition_is) }))))

pub stress_sub_run_started_well_formed : (ms : Members)
    → Holds IsCore (stress_sub_run_started_form ms)
unfolding stress_sub_run_started_form
stress_sub_run_started_well_formed ms =
    required_then stress_progress_form (codes "progress") ms _ stress_progress_well_formed
    (λ progress progress_is.
    record { is = progress_is })

pub place_well_formed : (ms : Members) → Holds IsPlace (place_form ms)
unfolding place_form
place_well_formed ms =
    maybe_then stress_index_form (codes "stress-index") ms _ stress_index_well_formed
    (λ stress_index stress_index_is.
    required_then u64_form (codes "index") ms _ u64_well_formed (λ index index_is.
    required_then u64_form (codes "total") ms _ u64_well_formed (λ total total_is.
    record { is = record { stress_index = stress_index_is; index = index_is; total = total_is } })))

pub command_well_formed : (ms : Members) → Holds IsCommand (command_form ms)
unfolding command_form
command_well_formed ms =
    required_then text_of (codes "script-id") ms _ text_well_formed (λ script_id script_id_is.
    required_then text_of (codes "program") ms _ text_well_formed (λ program program_is.
    required_then (list_form text_of) (codes "args") ms _
    (list_well_formed text_of text_well_formed) (λ args args_is.
    record { is = record { script_id = script_id_is; program = program_is; args = args_is } })))

pub setup_script_started_well_formed : (ms : Members) → Holds IsCore (setup_script_started_form ms)
unfolding setup_script_started_form
setup_script_started_well_formed ms =
    then_holds (place_form ms) _ (place_well_formed ms) (λ place place_is.
    required_then as_bool (codes "no-capture") ms _ (any_well_formed as_bool)
    (λ no_capture no_capture_is.
    then_holds (command_form ms) _ (command_well_formed ms) (λ command command_is.
    record {
      is = (
        place_is.stress_index,
        place_is.index,
        place_is.total,
        command_is.script_id,
        command_is.program,
        command_is.args,
      );
    })))

pub setup_script_slow_well_formed : (ms : Members) → Holds IsCore (setup_script_slow_form ms)
unfolding setup_script_slow_form
setup_script_slow_well_formed ms =
    maybe_then stress_index_form (codes "stress-index") ms _ stress_index_well_formed
    (λ stress_index stress_index_is.
    required_then duration_form (codes "slow-elapsed") ms _ duration_well_formed
    (λ elapsed elapsed_is.
    required_then as_bool (codes "will-terminate") ms _ (any_well_formed as_bool)
    (λ will_terminate will_terminate_is.
    then_holds (command_form ms) _ (command_well_formed ms) (λ command command_is.
    record {
      is = (stress_index_is, command_is.script_id, command_is.program, command_is.args, elapsed_is);
    }))))

pub test_started_well_formed : (ms : Members) → Holds IsCore (test_started_form ms)
unfolding test_started_form
test_started_well_formed ms =
    maybe_then stress_index_form (codes "stress-index") ms _ stress_index_well_formed
    (λ stress_index stress_index_is.
    required_then test_instance_form (codes "test-instance") ms _ test_instance_well_formed
    (λ test_instance test_instance_is.
    required_then slot_assignment_form (codes "slot-assignment") ms _ slot_assignment_well_formed
    (λ slot_assignment slot_assignment_is.
    required_then run_stats_form (codes "current-stats") ms _ run_stats_well_formed
    (λ current_stats current_stats_is.
    required_then u64_form (codes "running") ms _ u64_well_formed (λ running running_is.
    required_then (list_form text_of) (codes "command-line") ms _
    (list_well_formed text_of text_well_formed) (λ command_line command_line_is.
    record {
      is = (
        stress_index_is,
        test_instance_is,
        slot_assignment_is,
        current_stats_is,
        running_is,
        command_line_is,
      );
    }))))))

pub test_slow_well_formed : (ms : Members) → Holds IsCore (test_slow_form ms)
unfolding test_slow_form
test_slow_well_formed ms =
    maybe_then stress_index_form (codes "stress-index") ms _ stress_index_well_formed
    (λ stress_index stress_index_is.
    required_then test_instance_form (codes "test-instance") ms _ test_instance_well_formed
    (λ test_instance test_instance_is.
    required_then retry_data_form (codes "retry-data") ms _ retry_data_well_formed
    (λ retry_data retry_data_is.
    required_then duration_form (codes "slow-elapsed") ms _ duration_well_formed
    (λ elapsed elapsed_is.
    required_then as_bool (codes "will-terminate") ms _ (any_well_formed as_bool)
    (λ will_terminate will_terminate_is.
    record { is = (stress_index_is, test_instance_is, retry_data_is, elapsed_is) })))))

pub test_retry_started_well_formed : (ms : Members) → Holds IsCore (test_retry_started_form ms)
unfolding test_retry_started_form
test_retry_started_well_formed ms =
    maybe_then stress_index_form (codes "stress-index") ms _ stress_index_well_formed
    (λ stress_index stress_index_is.
    required_then test_instance_form (codes "test-instance") ms _ test_instance_well_formed
    (λ test_instance test_instance_is.
    required_then slot_assignment_form (codes "slot-assignment") ms _ slot_assignment_well_formed
    (λ slot_assignment slot_assignment_is.
    required_then retry_data_form (codes "retry-data") ms _ retry_data_well_formed
    (λ retry_data retry_data_is.
    required_then u64_form (codes "running") ms _ u64_well_formed (λ running running_is.
    required_then (list_form text_of) (codes "command-line") ms _
    (list_well_formed text_of text_well_formed) (λ command_line command_line_is.
    record {
      is = (
        stress_index_is,
        test_instance_is,
        slot_assignment_is,
        retry_data_is,
        running_is,
        command_line_is,
      );
    }))))))

pub test_skipped_well_formed : (ms : Members) → Holds IsCore (test_skipped_form ms)
unfolding test_skipped_form
test_skipped_well_formed ms =
    maybe_then stress_index_form (codes "stress-index") ms _ stress_index_well_formed
    (λ stress_index stress_index_is.
    required_then test_instance_form (codes "test-instance") ms _ test_instance_well_formed
    (λ test_instance test_instance_is.
    required_then mismatch_reason_form (codes "reason") ms _ (any_well_formed mismatch_reason_form)
    (λ reason reason_is.
    required_then skip_policy_form (codes "junit-report-skipped") ms _
    (any_well_formed skip_policy_form) (λ junit_report_skipped junit_report_skipped_is.
    record { is = (stress_index_is, test_instance_is) }))))

pub run_begin_cancel_well_formed : (ms : Members) → Holds IsCore (run_begin_cancel_form ms)
unfolding run_begin_cancel_form
run_begin_cancel_well_formed ms =
    required_then u64_form (codes "setup-scripts-running") ms _ u64_well_formed
    (λ setup_scripts_running setup_scripts_running_is.
    required_then u64_form (codes "running") ms _ u64_well_formed (λ running running_is.
    required_then cancel_reason_form (codes "reason") ms _ (any_well_formed cancel_reason_form)
    (λ reason reason_is.
    record { is = (setup_scripts_running_is, running_is) })))

pub run_paused_well_formed : (ms : Members) → Holds IsCore (run_paused_form ms)
unfolding run_paused_form
run_paused_well_formed ms =
    required_then u64_form (codes "setup-scripts-running") ms _ u64_well_formed
    (λ setup_scripts_running setup_scripts_running_is.
    required_then u64_form (codes "running") ms _ u64_well_formed (λ running running_is.
    record { is = (setup_scripts_running_is, running_is) }))

pub run_continued_well_formed : (ms : Members) → Holds IsCore (run_continued_form ms)
unfolding run_continued_form
run_continued_well_formed ms =
    required_then u64_form (codes "setup-scripts-running") ms _ u64_well_formed
    (λ setup_scripts_running setup_scripts_running_is.
    required_then u64_form (codes "running") ms _ u64_well_formed (λ running running_is.
    record { is = (setup_scripts_running_is, running_is) }))

pub stress_sub_run_finished_well_formed : (ms : Members)
    → Holds IsCore (stress_sub_run_finished_form ms)
unfolding stress_sub_run_finished_form
stress_sub_run_finished_well_formed ms =
    required_then stress_progress_form (codes "progress") ms _ stress_progress_well_formed
    (λ progress progress_is.
    required_then duration_form (codes "sub-elapsed") ms _ duration_well_formed
    (λ sub_elapsed sub_elapsed_is.
    required_then run_stats_form (codes "sub-stats") ms _ run_stats_well_formed
    (λ sub_stats sub_stats_is.
    record { is = (progress_is, sub_elapsed_is, sub_stats_is) })))

pub run_finished_well_formed : (ms : Members) → Holds IsCore (run_finished_form ms)
unfolding run_finished_form
run_finished_well_formed ms =
    required_then uuid_form (codes "run-id") ms _ uuid_well_formed (λ run_id run_id_is.
    required_then stamp_form (codes "start-time") ms _ stamp_well_formed
    (λ start_time start_time_is.
    required_then duration_form (codes "run-elapsed") ms _ duration_well_formed
    (λ elapsed elapsed_is.
    required_then run_finished_stats_form (codes "run-stats") ms _ run_finished_stats_well_formed
    (λ run_stats run_stats_is.
    maybe_then tests_not_seen_form (codes "outstanding-not-seen") ms _ tests_not_seen_well_formed
    (λ outstanding_not_seen outstanding_not_seen_is.
    record {
      is = (run_id_is, start_time_is, elapsed_is, run_stats_is, outstanding_not_seen_is);
    })))))
