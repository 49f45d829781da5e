-- The options of the commands, and the settings that they give.
use Rattle.std.specs.Option.{ok_or}
use Rattle.std.specs.Prelude.{ℕ, ◌+◌, ◌^◌, List, [], ◌∷◌, length, nat_lt, ◌&&◌, Bool, true}
use Rattle.std.specs.Prelude.{false, Option, Some, None, is_some, option_map, option_and_then}
use Rattle.std.specs.Prelude.{unwrap_or, Result, Ok, Err, codes, if◌then◌else◌}
use Rattle.std.specs.Str.Parse.{digits_value}
use Rattle.std.specs.Str.{bytes_eq, all_ascii_digits}
use Rattle.rec_container.specs.Reading.{◌>>=◌}
use Rattle.rec_replay.specs.declared.output_load.LoadOutput.TheVariants.{Load, Skip}
use Rattle.rec_replay.specs.declared.output_load.LoadOutput.{LoadOutput}
use Rattle.rec_spans.specs.declared.settings.ChromeTraceGroupBy.TheVariants.{Binary, Slot}
use Rattle.rec_spans.specs.declared.settings.ChromeTraceGroupBy.{ChromeTraceGroupBy}
use Rattle.rec_trace.specs.declared.settings.ChromeTraceMessageFormat.TheVariants.{Json, JsonPretty}
use Rattle.rec_trace.specs.declared.settings.ChromeTraceMessageFormat.{ChromeTraceMessageFormat}
use Rattle.rec_errors.specs.declared.words_error.WordsError.TheVariants.{
  UnknownOption,
  RepeatedOption,
  MissingValue,
  BadValue,
}
use Rattle.rec_errors.specs.declared.words_error.WordsError.{WordsError}
use Rattle.rec_export.specs.declared.settings.Settings.{Settings}
use Rattle.rec_export.specs.Settings.{default_settings}
use Rattle.rec_words.specs.declared.options.CommandName.TheVariants.{Record, Trace, Replay}
use Rattle.rec_words.specs.declared.options.CommandName.TheVariants.{Sample, Upgrade, Salvage}
use Rattle.rec_words.specs.declared.options.CommandName.TheVariants.{View, Live, Pack}
use Rattle.rec_words.specs.declared.options.CommandName.{CommandName}
use Rattle.rec_words.specs.declared.options.OptionName.TheVariants.{GroupBy, MessageFormat}
use Rattle.rec_words.specs.declared.options.OptionName.TheVariants.{MaxOutput, ReadLimit}
use Rattle.rec_words.specs.declared.options.OptionName.TheVariants.{SessionLimit, Output}
use Rattle.rec_words.specs.declared.options.OptionName.{OptionName}
use Rattle.rec_words.specs.declared.options.OptionValues.{OptionValues}

-- the option of a name
unfoldable pub option_named : List ℕ → Option OptionName
option_named word =
    if bytes_eq word (codes "--group-by") then Some GroupBy
    else if bytes_eq word (codes "--message-format") then Some MessageFormat
    else if bytes_eq word (codes "--max-output") then Some MaxOutput
    else if bytes_eq word (codes "--read-limit") then Some ReadLimit
    else if bytes_eq word (codes "--session-limit") then Some SessionLimit
    else if bytes_eq word (codes "--output") then Some Output
    else None

-- the commands that draw a trace
abbrev pub draws : CommandName → Bool
draws Record = true
draws Trace = true
draws Sample = true
draws command = false

-- the commands that record a session
abbrev pub records : CommandName → Bool
records Record = true
records Sample = true
records Live = true
records command = false

-- the commands that read outputs, unless they are to be skipped
abbrev pub loads_outputs : CommandName → Bool
loads_outputs Replay = true
loads_outputs View = true
loads_outputs command = false

-- the commands that take the limit of what is read of a bundle: all but those of a run's directory
abbrev pub reads_bundle : CommandName → Bool
reads_bundle Live = false
reads_bundle Pack = false
reads_bundle command = true

-- which commands take an option
abbrev pub takes : CommandName → OptionName → Bool
takes command GroupBy = draws command
takes command MessageFormat = draws command
takes command MaxOutput = records command
takes command Output = loads_outputs command
takes command ReadLimit = reads_bundle command
takes command SessionLimit = true

-- the index of the word at which the options of a command begin:
-- its name and its positional words stand before
abbrev pub options_at : CommandName → ℕ
options_at Record = 2
options_at Sample = 3
options_at Upgrade = 2
options_at Salvage = 2
options_at Live = 2
options_at Pack = 3
options_at command = 1

-- the number that one or more decimal digits write, where it fits 64 bits
unfoldable pub number_of : List ℕ → Option ℕ
number_of text =
    if all_ascii_digits text && nat_lt 0 (length text) && nat_lt (digits_value 10 text) (2 ^ 64)
    then Some (digits_value 10 text)
    else None

-- the number of tests of a generated session that digits write, up to 10000
unfoldable pub tests_of : List ℕ → Option ℕ
tests_of text = option_and_then (λ n. if nat_lt 10000 n then None else Some n) (number_of text)

-- the grouping of a name
unfoldable pub group_by_of : List ℕ → Option ChromeTraceGroupBy
group_by_of word =
    if bytes_eq word (codes "binary") then Some Binary
    else if bytes_eq word (codes "slot") then Some Slot else None

-- the form of a name
unfoldable pub message_format_of : List ℕ → Option ChromeTraceMessageFormat
message_format_of word =
    if bytes_eq word (codes "json") then Some Json
    else if bytes_eq word (codes "json-pretty") then Some JsonPretty else None

-- whether outputs are loaded, by a name for it
unfoldable pub output_of : List ℕ → Option LoadOutput
output_of word =
    if bytes_eq word (codes "load") then Some Load
    else if bytes_eq word (codes "skip") then Some Skip else None

-- no option came yet
abbrev pub no_values : OptionValues
no_values = record {
  group_by = None;
  message_format = None;
  max_output = None;
  read_limit = None;
  session_limit = None;
  output = None;
}

-- whether an option came
abbrev pub has_come : OptionValues → OptionName → Bool
has_come values GroupBy = is_some values.group_by
has_come values MessageFormat = is_some values.message_format
has_come values MaxOutput = is_some values.max_output
has_come values ReadLimit = is_some values.read_limit
has_come values SessionLimit = is_some values.session_limit
has_come values Output = is_some values.output

-- the values after an option and the text of its value, where the option takes it
abbrev pub with_value : OptionValues → OptionName → List ℕ → Option OptionValues
with_value values GroupBy text =
    option_map (λ g. record values { group_by = Some g }) (group_by_of text)
with_value values MessageFormat text =
    option_map (λ format. record values { message_format = Some format }) (message_format_of text)
with_value values MaxOutput text =
    option_map (λ limit. record values { max_output = Some limit }) (number_of text)
with_value values ReadLimit text =
    option_map (λ limit. record values { read_limit = Some limit }) (number_of text)
with_value values SessionLimit text =
    option_map (λ limit. record values { session_limit = Some limit }) (number_of text)
with_value values Output text =
    option_map (λ load. record values { output = Some load }) (output_of text)

-- the values of options, and the defaults elsewhere
abbrev pub settings_of : OptionValues → Settings
settings_of values = record {
  group_by = unwrap_or values.group_by default_settings.group_by;
  message_format = unwrap_or values.message_format default_settings.message_format;
  max_output = unwrap_or values.max_output default_settings.max_output;
  read_limit = unwrap_or values.read_limit default_settings.read_limit;
  session_limit = unwrap_or values.session_limit default_settings.session_limit;
}

-- whether outputs are loaded, by the values of options
abbrev pub load_of : OptionValues → LoadOutput
load_of values = unwrap_or values.output Load

-- an option that a word names, that the command takes and that didn't come before,
-- or what is wrong with it
abbrev pub new_option : CommandName → OptionValues → ℕ → Option OptionName
    → Result OptionName WordsError
new_option command values at None = Err (UnknownOption at)
new_option command values at (Some name) =
    if takes command name then (if has_come values name then Err (RepeatedOption at) else Ok name)
    else Err (UnknownOption at)

-- the values after all words, the first of which is the word `at`; or their first fault
abbrev pub values_from : CommandName → OptionValues → ℕ → List (List ℕ)
    → Result OptionValues WordsError
values_from command values at [] = Ok values
values_from command values at (word ∷ []) =
    new_option command values at (option_named word) >>= (λ name. Err (MissingValue (at + 1)))
values_from command values at (word ∷ text ∷ words) =
    new_option command values at (option_named word) >>= (λ name.
    ok_or (with_value values name text) (BadValue (at + 1))
    >>= (λ more. values_from command more (at + 2) words))

-- the settings that the options of a command give, or their first fault
abbrev pub settings_from : CommandName → List (List ℕ) → Result Settings WordsError
settings_from command words =
    values_from command no_values (options_at command) words >>= (λ values. Ok (settings_of values))
