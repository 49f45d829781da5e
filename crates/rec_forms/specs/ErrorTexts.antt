-- The values and forms of what is said of errors.
use Rattle.std.specs.Prelude.{◌^◌, ◌<◌, [], ◌∷◌, Option, Some, codes}
use Rattle.serde_json.specs.Data.{Data, string}
use Rattle.serde_json.specs.Find.{as_object}
use Rattle.rec_events.specs.declared.results.ErrorSummary.{ErrorSummary}
use Rattle.rec_events.specs.declared.results.OutputErrorSlice.{OutputErrorSlice}
use Rattle.rec_events.specs.Names.{IsText}
use Rattle.rec_forms.specs.Numbers.{u64_form}
use Rattle.rec_forms.specs.Shape.{◌>>=◌, natural, field, struct, required, text_of}

-- ErrorSummary
abbrev pub error_summary_value : ErrorSummary → Data
error_summary_value s =
    struct (field (codes "short-message") (string s.short_message)
    ∷ field (codes "description") (string s.description) ∷ [])

unfoldable pub error_summary_form : Data → Option ErrorSummary
error_summary_form d = do
  ms ← as_object d
  short_message ← required text_of (codes "short-message") ms
  description ← required text_of (codes "description") ms
  Some (record { short_message = short_message; description = description })

pub record IsErrorSummary (s : ErrorSummary) : Type 0 where
  pub short_message : IsText s.short_message
  pub description : IsText s.description

-- OutputErrorSlice
abbrev pub error_slice_value : OutputErrorSlice → Data
error_slice_value s =
    struct (field (codes "slice") (string s.slice) ∷ field (codes "start") (natural s.start) ∷ [])

unfoldable pub error_slice_form : Data → Option OutputErrorSlice
error_slice_form d = do
  ms ← as_object d
  slice ← required text_of (codes "slice") ms
  start ← required u64_form (codes "start") ms
  Some (record { slice = slice; start = start })

pub record IsErrorSlice (s : OutputErrorSlice) : Type 0 where
  pub slice : IsText s.slice
  pub start : s.start < 2 ^ 64
