-- How a run is shown.
use Rattle.std.specs.Prelude.{false, None}
use Rattle.rec_replay.specs.declared.settings.DisplaySettings.{DisplaySettings}
use Rattle.rec_replay.specs.declared.settings.FinalStatusLevel.TheVariants as final_level
use Rattle.rec_replay.specs.declared.settings.MaxProgressRunning.TheVariants.{Count}
use Rattle.rec_replay.specs.declared.settings.ShowProgress.TheVariants.{Auto}
use Rattle.rec_replay.specs.declared.settings.StatusLevel.TheVariants as level

-- what holds where nothing is set
abbrev pub default_settings : DisplaySettings
default_settings = record {
  status_level = level.Pass;
  final_status_level = final_level.Fail;
  success_output = None;
  failure_output = None;
  should_colorize = false;
  verbose = false;
  show_progress = Auto;
  max_progress_running = Count 8;
  no_output_indent = false;
  redactor = record { active = false };
}
