-- The words of the command line.
use Rattle.std.specs.declared.alloc.Global.{Global}
use Rattle.std.specs.Option.{ok_or}
use Rattle.std.specs.Prelude.{◌≡◌, ◌≤◌, ℕ, List, [], ◌∷◌, map, Option, Some, None, Result}
use Rattle.std.specs.Prelude.{Ok, Err, String, string_bytes, codes, if◌then◌else◌, ⊤}
use Rattle.std.specs.Str.{bytes_eq}
use Rattle.rec_container.specs.Reading.{◌>>=◌}
use Rattle.rec_replay.specs.declared.output_load.LoadOutput.{LoadOutput}
use Rattle.rec_errors.specs.declared.words_error.WordsError.TheVariants.{
  NoCommand,
  UnknownCommand,
  MissingPositional,
  BadNumber,
}
use Rattle.rec_errors.specs.declared.words_error.WordsError.{WordsError}
use Rattle.rec_export.specs.declared.settings.Settings.{Settings}
use Rattle.rec_words.specs.declared.options.CommandName.TheVariants.{Record, Trace, Replay}
use Rattle.rec_words.specs.declared.options.CommandName.TheVariants.{Report, Info, Slots, Rerun}
use Rattle.rec_words.specs.declared.options.CommandName.TheVariants.{Sample, Upgrade, Salvage}
use Rattle.rec_words.specs.declared.options.CommandName.TheVariants.{View, Live, Pack}
use Rattle.rec_words.specs.declared.options.CommandName.{CommandName}
use Rattle.rec_words.specs.declared.words.BundleWords.{BundleWords}
use Rattle.rec_words.specs.declared.words.Command.TheVariants as commands
use Rattle.rec_words.specs.declared.words.Command.{Command}
use Rattle.rec_words.specs.Options.{load_of, no_values, options_at, settings_from}
use Rattle.rec_words.specs.Options.{settings_of, tests_of, values_from}

-- what words ask for: a recording into a bundle at a path; the trace of a bundle, its events, its
-- reports, what its manifest says, how its slots were used, which tests to run again, or a view of
-- its run; a recording of a generated session of so many tests; a bundle upgraded, or what is
-- salvaged of it, at a path; a recording into a directory while the run goes on, or the bundle of
-- such a directory at a path; or a text about the program
pub data Asked : Type 0 where
  recording : List ℕ → Settings → Asked
  tracing : Settings → Asked
  replaying : LoadOutput → Settings → Asked
  reporting : Settings → Asked
  informing : Settings → Asked
  slotting : Settings → Asked
  rerunning : Settings → Asked
  viewing : LoadOutput → Settings → Asked
  sampling : ℕ → List ℕ → Settings → Asked
  upgrading : List ℕ → Settings → Asked
  salvaging : List ℕ → Settings → Asked
  living : List ℕ → Settings → Asked
  packing : List ℕ → List ℕ → Settings → Asked
  help : Asked
  version : Asked

-- the path of a bundle, and settings
pub record BundleAsked : Type 0 where
  pub path : List ℕ
  pub settings : Settings

-- a command as plain data
abbrev pub asked : Command → Asked
asked (commands.Record bundle settings) = recording bundle.now settings
asked (commands.Trace settings) = tracing settings
asked (commands.Replay output settings) = replaying output settings
asked (commands.Report settings) = reporting settings
asked (commands.Info settings) = informing settings
asked (commands.Slots settings) = slotting settings
asked (commands.Rerun settings) = rerunning settings
asked (commands.View output settings) = viewing output settings
asked (commands.Sample n bundle settings) = sampling n bundle.now settings
asked (commands.Upgrade bundle settings) = upgrading bundle.now settings
asked (commands.Salvage bundle settings) = salvaging bundle.now settings
asked (commands.Live directory settings) = living directory.now settings
asked (commands.Pack directory bundle settings) = packing directory.now bundle.now settings
asked commands.Help = help
asked commands.Version = version

-- the bytes of each word
abbrev pub texts : List (String Global) → List (List ℕ)
texts words = map string_bytes words

-- the command of a name
unfoldable pub command_named : List ℕ → Option CommandName
command_named word =
    if bytes_eq word (codes "record") then Some Record
    else if bytes_eq word (codes "trace") then Some Trace
    else if bytes_eq word (codes "replay") then Some Replay
    else if bytes_eq word (codes "report") then Some Report
    else if bytes_eq word (codes "info") then Some Info
    else if bytes_eq word (codes "slots") then Some Slots
    else if bytes_eq word (codes "rerun") then Some Rerun
    else if bytes_eq word (codes "view") then Some View
    else if bytes_eq word (codes "sample") then Some Sample
    else if bytes_eq word (codes "upgrade") then Some Upgrade
    else if bytes_eq word (codes "salvage") then Some Salvage
    else if bytes_eq word (codes "live") then Some Live
    else if bytes_eq word (codes "pack") then Some Pack
    else None

-- the words after a command that takes one path alone: the path, and the options
abbrev pub bundle_after : CommandName → List (List ℕ) → Result BundleAsked WordsError
bundle_after name [] = Err (MissingPositional 1)
bundle_after name (bundle ∷ words) =
    settings_from name words >>= (λ settings. Ok (record { path = bundle; settings = settings }))

-- what `sample` asks for with the words after its number of tests: the path of the bundle,
-- and then its options
abbrev pub sample_after : ℕ → List (List ℕ) → Result Asked WordsError
sample_after n [] = Err (MissingPositional 2)
sample_after n (bundle ∷ words) =
    settings_from Sample words >>= (λ settings. Ok (sampling n bundle settings))

-- what `pack` asks for with the words after the directory: the path of the bundle, and then its
-- options
abbrev pub pack_after : List ℕ → List (List ℕ) → Result Asked WordsError
pack_after directory [] = Err (MissingPositional 2)
pack_after directory (bundle ∷ words) =
    settings_from Pack words >>= (λ settings. Ok (packing directory bundle settings))

-- what a command asks for with the words after its name: its positional words, and then its options
abbrev pub command_after : CommandName → List (List ℕ) → Result Asked WordsError
command_after Record words = bundle_after Record words >>= (λ b. Ok (recording b.path b.settings))
command_after Trace words = settings_from Trace words >>= (λ settings. Ok (tracing settings))
command_after Replay words =
    values_from Replay no_values (options_at Replay) words
    >>= (λ values. Ok (replaying (load_of values) (settings_of values)))
command_after Report words = settings_from Report words >>= (λ settings. Ok (reporting settings))
command_after Info words = settings_from Info words >>= (λ settings. Ok (informing settings))
command_after Slots words = settings_from Slots words >>= (λ settings. Ok (slotting settings))
command_after Rerun words = settings_from Rerun words >>= (λ settings. Ok (rerunning settings))
command_after View words =
    values_from View no_values (options_at View) words
    >>= (λ values. Ok (viewing (load_of values) (settings_of values)))
command_after Sample [] = Err (MissingPositional 1)
command_after Sample (number ∷ words) =
    ok_or (tests_of number) (BadNumber 1) >>= (λ n. sample_after n words)
command_after Upgrade words = bundle_after Upgrade words >>= (λ b. Ok (upgrading b.path b.settings))
command_after Salvage words = bundle_after Salvage words >>= (λ b. Ok (salvaging b.path b.settings))
command_after Live words = bundle_after Live words >>= (λ b. Ok (living b.path b.settings))
command_after Pack [] = Err (MissingPositional 1)
command_after Pack (directory ∷ words) = pack_after directory words

-- what a word asks for that is the name of no such command, with the words after it
abbrev pub other_command : List ℕ → List (List ℕ) → Result Asked WordsError
other_command word [] =
    if bytes_eq word (codes "--help") then Ok help
    else if bytes_eq word (codes "--version") then Ok version else Err (UnknownCommand 0)
other_command word (next ∷ words) = Err (UnknownCommand 0)

-- what the first word asks for, by the command that it names, with the words after it
abbrev pub command_from : Option CommandName → List ℕ → List (List ℕ) → Result Asked WordsError
command_from (Some name) word words = command_after name words
command_from None word words = other_command word words

-- what the words ask for, or their first fault from the left
abbrev pub command : List (List ℕ) → Result Asked WordsError
command [] = Err NoCommand
command (word ∷ words) = command_from (command_named word) word words

-- a command or a fault is answered, exactly as the words have it
abbrev pub Reads : Result Command WordsError → Result Asked WordsError → Type 0
Reads (Ok c) read = read ≡ Ok (asked c)
Reads (Err fault) read = read ≡ Err fault

-- a bundle and settings are answered, or a fault, exactly as the words have it
abbrev pub ReadsBundle : Result BundleWords WordsError → Result BundleAsked WordsError → Type 0
ReadsBundle (Ok b) read = read ≡ Ok (record { path = b.bundle.now; settings = b.settings })
ReadsBundle (Err fault) read = read ≡ Err fault

-- the number of tests that a command asks for is at most 10000
abbrev pub HasTests : Command → Type 0
HasTests (commands.Sample n bundle settings) = n ≤ 10000
HasTests command = ⊤

-- the path of the bundle that a command writes
abbrev pub bundle_asked : Asked → Option (List ℕ)
bundle_asked (recording bundle settings) = Some bundle
bundle_asked (sampling n bundle settings) = Some bundle
bundle_asked (upgrading bundle settings) = Some bundle
bundle_asked (salvaging bundle settings) = Some bundle
bundle_asked (packing directory bundle settings) = Some bundle
bundle_asked asked = None

abbrev pub bundle_of : Result Asked WordsError → Option (List ℕ)
bundle_of (Ok asked) = bundle_asked asked
bundle_of (Err fault) = None

-- the directory that a run is recorded into while it goes on
abbrev pub directory_asked : Asked → Option (List ℕ)
directory_asked (living directory settings) = Some directory
directory_asked asked = None

abbrev pub directory_of : Result Asked WordsError → Option (List ℕ)
directory_of (Ok asked) = directory_asked asked
directory_of (Err fault) = None
