-- The values and forms of kinds of outputs, and of the names of their files.
use Rattle.std.specs.Prelude.{ℕ, ◌^◌, ◌<◌, List, [], ◌∷◌, Option, option_and_then, codes}
use Rattle.serde_json.specs.Data.{Data, string}
use Rattle.serde_json.specs.Find.{as_str}
use Rattle.rec_events.specs.declared.output_names.OutputFileName.{OutputFileName}
use Rattle.rec_events.specs.declared.output_names.OutputKind.TheVariants.{Stdout, Stderr, Combined}
use Rattle.rec_events.specs.declared.output_names.OutputKind.{OutputKind}
use Rattle.rec_events.specs.OutputNames.{file_name_text, file_name_of}
use Rattle.rec_forms.specs.Shape.{named}

-- OutputKind
abbrev pub output_kind_name : OutputKind → List ℕ
output_kind_name Stdout = codes "stdout"
output_kind_name Stderr = codes "stderr"
output_kind_name Combined = codes "combined"

abbrev pub output_kind_value : OutputKind → Data
output_kind_value x = string (output_kind_name x)

abbrev pub output_kinds : List (List ℕ × OutputKind)
output_kinds =
    (codes "stdout", Stdout) ∷ (codes "stderr", Stderr) ∷ (codes "combined", Combined) ∷ []

unfoldable pub output_kind_form : Data → Option OutputKind
output_kind_form d = option_and_then (named output_kinds) (as_str d)

-- OutputFileName
abbrev pub file_name_value : OutputFileName → Data
file_name_value name = string (file_name_text name)

unfoldable pub file_name_form : Data → Option OutputFileName
file_name_form d = option_and_then file_name_of (as_str d)

pub record IsFileName (name : OutputFileName) : Type 0 where
  pub number : name.number < 2 ^ 64
