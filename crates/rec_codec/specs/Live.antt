-- The values and forms of outputs as they are captured.
use Rattle.std.specs.Prelude.{IfSome, Bool, true, false, [], ◌∷◌, Option, Some, option_map, codes}
use Rattle.hex.specs.Hex.{IsBytes}
use Rattle.serde_json.specs.Data.{Data, string}
use Rattle.serde_json.specs.Find.{as_object}
use Rattle.rec_events.specs.declared.outputs.ChildOutputDescription.TheVariants.{
  Split,
  Combined,
  NotLoaded,
}
use Rattle.rec_events.specs.declared.outputs.ChildOutputDescription.{ChildOutputDescription}
use Rattle.rec_forms.specs.Outputs.{output_bytes_value, output_bytes_form}
use Rattle.rec_forms.specs.Shape.{◌>>=◌, optional, struct, maybe, tagged, variant}

-- whether an output can be written
abbrev pub is_loaded : ChildOutputDescription → Bool
is_loaded (Split out err) = true
is_loaded (Combined output) = true
is_loaded NotLoaded = false

-- What isn't loaded is never written; an empty text stands in its place.
abbrev pub live_value : ChildOutputDescription → Data
live_value (Split out err) =
    tagged (codes "split") (struct (optional (codes "stdout") output_bytes_value out
    ∷ optional (codes "stderr") output_bytes_value err ∷ []))
live_value (Combined output) = tagged (codes "combined") (output_bytes_value output)
live_value NotLoaded = string []

unfoldable pub live_split_form : Data → Option ChildOutputDescription
live_split_form d = do
  ms ← as_object d
  out ← maybe output_bytes_form (codes "stdout") ms
  err ← maybe output_bytes_form (codes "stderr") ms
  Some (Split out err)

abbrev pub live_combined_form : Data → Option ChildOutputDescription
live_combined_form d = option_map Combined (output_bytes_form d)

unfoldable pub live_form : Data → Option ChildOutputDescription
live_form =
    variant [] ((codes "split", live_split_form) ∷ (codes "combined", live_combined_form) ∷ [])

abbrev pub IsLive : ChildOutputDescription → Type 0
IsLive (Split out err) = IfSome out IsBytes × IfSome err IsBytes
IsLive (Combined output) = IsBytes output
IsLive NotLoaded = ⊥
