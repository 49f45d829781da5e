-- The values and forms of what a recording says of the whole run.
use Rattle.std.specs.Prelude.{ℕ, List, [], ◌∷◌, Option, Some, option_and_then, codes}
use Rattle.serde_json.specs.Data.{Data, string}
use Rattle.serde_json.specs.Find.{as_object, as_str}
use Rattle.rec_events.specs.declared.recording.NextestRunMode.TheVariants.{Test, Benchmark}
use Rattle.rec_events.specs.declared.recording.NextestRunMode.{NextestRunMode}
use Rattle.rec_events.specs.declared.recording.RecordOpts.{RecordOpts}
use Rattle.rec_events.specs.declared.recording.TestListSummary.{TestListSummary}
use Rattle.rec_events.specs.Names.{AreTexts}
use Rattle.rec_forms.specs.Lists.{list_value, list_form}
use Rattle.rec_forms.specs.Maps.{map_value, map_form, IsMap}
use Rattle.rec_forms.specs.Shape.{◌>>=◌, field, struct, required, named, text_of}

abbrev pub run_mode_name : NextestRunMode → List ℕ
run_mode_name Test = codes "test"
run_mode_name Benchmark = codes "benchmark"

abbrev pub run_mode_value : NextestRunMode → Data
run_mode_value m = string (run_mode_name m)

abbrev pub run_modes : List (List ℕ × NextestRunMode)
run_modes = (codes "test", Test) ∷ (codes "benchmark", Benchmark) ∷ []

unfoldable pub run_mode_form : Data → Option NextestRunMode
run_mode_form d = option_and_then (named run_modes) (as_str d)

abbrev pub record_opts_value : RecordOpts → Data
record_opts_value o = struct (field (codes "run-mode") (run_mode_value o.run_mode) ∷ [])

unfoldable pub record_opts_form : Data → Option RecordOpts
record_opts_form d = do
  ms ← as_object d
  run_mode ← required run_mode_form (codes "run-mode") ms
  Some (record { run_mode = run_mode })

abbrev pub test_list_value : TestListSummary → Data
test_list_value t = struct (field (codes "suites") (map_value (list_value string) t.suites) ∷ [])

unfoldable pub test_list_form : Data → Option TestListSummary
test_list_form d = do
  ms ← as_object d
  suites ← required (map_form (list_form text_of)) (codes "suites") ms
  Some (record { suites = suites })

pub record IsTestList (t : TestListSummary) : Type 0 where
  pub suites : IsMap AreTexts t.suites
