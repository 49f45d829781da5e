-- The settings that hold where no word sets them.
use Rattle.rec_spans.specs.declared.settings.ChromeTraceGroupBy.TheVariants.{Binary}
use Rattle.rec_trace.specs.declared.settings.ChromeTraceMessageFormat.TheVariants.{Json}
use Rattle.rec_export.specs.declared.settings.Settings.{Settings}

abbrev pub default_settings : Settings
default_settings = record {
  group_by = Binary;
  message_format = Json;
  max_output = 10485760;
  read_limit = 268435456;
  session_limit = 268435456;
}
